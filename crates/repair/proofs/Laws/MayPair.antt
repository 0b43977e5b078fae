-- The pairs of a direction: none where the stratum rule fails or the groups do not pair off, else those of the definition. Assumes nothing.
use mathlib.Core.Path.{◌≡◌, refl, sym, subst}
use mathlib.Core.Bool.{true, false}
use mathlib.Core.List.{List}
use Prim.Native.Nat.{ℕ}
use lib.ListN.{drop}
use Rattle.std.specs.Prelude.{Option, None}
use Rattle.geometry.specs.declared.bounds.Options.{Options}
use Rattle.mesh.specs.declared.element.Pair.{Pair}
use Rattle.mesh.specs.declared.star.Index.{Index}
use Rattle.mesh.proofs.Laws.Bools.{and_intro}
use Rattle.repair.specs.Mesh.{Mesh}
use Rattle.repair.specs.Improve.{State, stratum_rule, active_group, pair_off, partners, may_go}
use Rattle.repair.specs.inside.Layout.{Stands, Pairs, pairs_at}
use Rattle.repair.specs.inside.improve.Partners.{Paired}
use Rattle.repair.specs.inside.improve.Round.{MayPair}
use Rattle.repair.proofs.Laws.Pairs.Found.{stands_same}
use Rattle.repair.proofs.Laws.Pairs.Apart.{some-off, some_pairs, none-off}
use Rattle.repair.proofs.Laws.Replace.Pairs.{pairs-few}

module _ (o : Options) (m : Mesh) (x : Index) (n : ℕ) (s : State) (a b : ℕ) (w : List ℕ) (z : Stands o m x n w s) where
  -- a's stratum is not inside b's, or has three bits
  pub no-rule : stratum_rule o m a b ≡ false → MayPair o m x n s a b w w None
  unfolding may_go
  no-rule f = record {
    stands = z;
    same = record { long = refl; before = λ j h. refl; behind = λ j h. refl };
    few = λ k h. absurd cc;
    none = λ e. rw f;
    pairs = λ k h. absurd cc;
    proper = λ k h. absurd cc;
    rule = λ k h. absurd cc;
  }

  module _ (w' : List ℕ) (r : Option ℕ) (t : stratum_rule o m a b ≡ true) (p : Paired o m x (active_group o m s.replaced a) (active_group o m s.replaced b) w w' r) where
    abbrev es : List Pair
    es = partners o m (active_group o m s.replaced a) (active_group o m s.replaced b)

    -- the groups pair off, or do not
    pub with-rule : MayPair o m x n s a b w w' r
    unfolding may_go
    with-rule = record {
      stands = stands_same p.same z;
      same = p.same;
      few = λ k h. pairs-few x.vertices k (drop (pairs_at x) w') (subst (Pairs x.vertices) (sym (p.pairs k h)) (some_pairs z a b p k h));
      none = λ e. rw (t, none-off z a b p e);
      pairs = p.pairs;
      proper = some_pairs z a b p;
      rule = λ k h. and_intro (stratum_rule o m a b) (pair_off (active_group o m s.replaced a) (active_group o m s.replaced b) es) t (some-off z a b p k h);
    }
