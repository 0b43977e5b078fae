-- The live elements about several vertices (document 01: the elements that have one of them, in number order), by the plain scan and by
-- the index of src/star.rt; the elements of listed slots; the live elements of all slots. For contracts of private functions and for
-- proofs; definitions only.
use Rattle.std.specs.Prelude.{ℕ, zero, suc, ◌+◌, ◌*◌, Bool, true, cond, not, ◌&&◌, ◌||◌, List, [], ◌∷◌, map, length, take, drop, nat_le, nat_lt}
use Rattle.mesh.specs.declared.element.Tet.{Tet}
use Rattle.mesh.specs.declared.star.Index.{Index}
use Rattle.mesh.specs.Words.{word_at, inside, flat}
use Rattle.mesh.specs.Complex.{keep}
use Rattle.mesh.specs.Element.{tet, tets, vertices_of, has}
use Rattle.mesh.specs.inside.List.{gone}
use Rattle.mesh.specs.inside.Star.{gone_tet, gather, corner_at, chain_length, slots_met, laid, room_for, distinct, written, listed}
use Rattle.mesh.specs.Tests.{any}

-- ---- by the scan

-- does the element have one of the vertices
abbrev pub has_one : List ℕ → Tet → Bool
has_one vs t = any (λ v. has v t) vs

-- the numbers of the elements that pass the test, where the first is number i
unfoldable pub pass_from : (Tet → Bool) → ℕ → List Tet → List ℕ
pass_from p i [] = []
pass_from p i (t ∷ ts) = cond (p t) (i ∷ pass_from p (i + 1) ts) (pass_from p (i + 1) ts)

-- the numbers of the elements that have one of the vertices
abbrev pub star_all : List ℕ → List Tet → List ℕ
star_all vs ts = pass_from (has_one vs) 0 ts

-- ---- by the index

-- the k words at p, p + step, p + 2 step, ..
unfoldable pub members : ℕ → ℕ → ℕ → List ℕ → List ℕ
members zero p step s = []
members (suc k) p step s = word_at s p ∷ members k (p + step) step s

-- none of these places lies from a up to m
unfoldable pub clear_of : ℕ → ℕ → ℕ → ℕ → ℕ → Bool
clear_of a m zero p step = true
clear_of a m (suc k) p step = (nat_lt p a || nat_le m p) && clear_of a m k (p + step) step

-- how many entries the chains of the vertices have together
unfoldable pub entries_of : Index → List ℕ → List ℕ → ℕ
entries_of x s [] = 0
entries_of x s (v ∷ vs) = chain_length x s v + entries_of x s vs

-- the slots where one of them stands, by their chains
unfoldable pub slots_of : Index → List ℕ → List ℕ → List ℕ
slots_of x s vs = gather (slots_met x s) vs

-- room for twice the entries, and no member in the area, which is written while they are read
unfoldable pub about_room : Index → List ℕ → ℕ → ℕ → ℕ → Bool
about_room x s from count step =
    room_for x (length s) (entries_of x s (members count from step s)) && clear_of x.area (length s) count from step

-- the star of the members, and none where there is no room
unfoldable pub about_list : Index → List ℕ → ℕ → ℕ → ℕ → List ℕ
about_list x s from count step = cond (about_room x s from count step) (distinct (slots_of x s (members count from step s))) []

-- the slice with it in the area
unfoldable pub about_in : Index → List ℕ → ℕ → ℕ → ℕ → List ℕ
about_in x s from count step = cond (about_room x s from count step) (listed s x.area (slots_of x s (members count from step s))) s

-- ---- elements copied

-- the element of the slot e, gone where there is no such slot
unfoldable pub slot_at : Index → List ℕ → ℕ → Tet
slot_at x s e =
    cond (nat_lt e x.room) (tet (corner_at x s (4 * e)) (corner_at x s (4 * e + 1)) (corner_at x s (4 * e + 2)) (corner_at x s (4 * e + 3))) gone_tet

-- the words of the elements, four each
abbrev pub words_of : List Tet → List ℕ
words_of ts = flat (map vertices_of ts)

-- whether n rows of w words have room in the area
unfoldable pub space_for : Index → ℕ → ℕ → ℕ → Bool
space_for x m n w = laid x m && inside x.area (n * w) m

-- the elements of the n slots that the area's front lists, behind the list; nothing where there is no room
unfoldable pub elements_in : Index → ℕ → List ℕ → List ℕ
elements_in x n s =
    cond (space_for x (length s) n 5) (written s (x.area + n) (words_of (map (slot_at x s) (take n (drop x.area s))))) s

-- is an element in the slot
abbrev pub live : Tet → Bool
live t = not (gone t)

-- whether there are n slots, and room for their elements
unfoldable pub live_room : Index → ℕ → ℕ → Bool
live_room x m n = nat_le n x.room && space_for x m n 4

-- the elements of the first n slots that are not gone, and none where there is no room
unfoldable pub live_list : Index → ℕ → List ℕ → List Tet
live_list x n s = cond (live_room x (length s) n) (keep live (tets n (drop x.slots s))) []

-- the slice with them at the area's front
unfoldable pub live_in : Index → ℕ → List ℕ → List ℕ
live_in x n s = cond (live_room x (length s) n) (written s x.area (words_of (keep live (tets n (drop x.slots s))))) s
