-- `repair::improve::partners::put_pair` meets its contract: no partner, one that is in a pair, or the pair is written. Assumes nothing.
use Rattle.mesh.specs.Words.{points_in}
use Rattle.repair.specs.inside.improve.Partners.{only}
use Rattle.repair.proofs.Laws.Pairs.Pairing.{put-none, put-old, put-new}
use Rattle.repair.proofs.improve.partners.put_pair.Goals as goal

pub returns-in_default : goal.returns-in_default
returns-in_default c = put-none c.args.given.now.options (only (points_in c.args.given.now.parameters)) c.args.given.now.index c.args.work.now c.args.v c.args.g c.args.k c.in_default.ensures

pub returns-then-is_second : goal.returns-then-is_second
returns-then-is_second c = put-old c.args.given.now.options (only (points_in c.args.given.now.parameters)) c.args.given.now.index c.args.work.now c.args.v c.args.g c.args.k _ c.in-Some.ensures c.pairs_at-p.result c.pairs_at-p.ensures c.is_second.result c.is_second.ensures c.if-is_second.true

pub returns : goal.returns
returns c = put-new c.args.given.now.options (only (points_in c.args.given.now.parameters)) c.args.given.now.index c.args.work.now c.args.v c.args.g c.args.k _ c.in-Some.ensures c.pairs_at-p.result c.pairs_at-p.ensures c.is_second.result c.is_second.ensures c.if-is_second.false c.requires.1 c.put.new.s c.put-2.new.s c.put.ensures c.put-2.ensures
