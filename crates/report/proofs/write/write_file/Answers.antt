-- `report::write::write_file` meets its contract: all blocks, or nothing. Assumes nothing.
use Rattle.std.proofs.Common.{arith}
use Rattle.std.proofs.Common.{ap, not}
use Rattle.report.specs.Write.{plot_of}
use Rattle.report.proofs.Laws.Write.Files.{none-size, none-into, room_in, all-size, all-into}
use Rattle.report.proofs.write.write_file.Goals as goal

pub returns-then-not-has_room : goal.returns-then-not-has_room
returns-then-not-has_room c =
    record { value = none-size (plot_of c.args.plot.now) c.args.out.now c.has_room.result c.has_room.ensures (ap not c.if-not-has_room.true); out_after = none-into (plot_of c.args.plot.now) c.args.out.now c.has_room.result c.has_room.ensures (ap not c.if-not-has_room.true) }

pub invariant_of-file : goal.invariant_of-file
invariant_of-file c = let h = room_in (plot_of c.args.plot.now) c.args.out.now c.has_room.result c.has_room.ensures (ap not c.if-not-has_room.false) in record { few = (h.0, h.1) }

pub put_blocks-requires : goal.put_blocks-requires
put_blocks-requires c = let h = room_in (plot_of c.args.plot.now) c.args.out.now c.has_room.result c.has_room.ensures (ap not c.if-not-has_room.false) in let e = c.blocks-2.ensures.0 in omega arith

pub returns : goal.returns
returns c = let e = c.blocks-2.ensures.0 in
    record { value = all-size (plot_of c.args.plot.now) c.args.out.now c.has_room.result c.has_room.ensures _ _ (ap not c.if-not-has_room.false) e c.put_blocks.ensures.1; out_after = all-into (plot_of c.args.plot.now) c.args.out.now c.has_room.result c.has_room.ensures _ (ap not c.if-not-has_room.false) e c.put_blocks.ensures.0 }
