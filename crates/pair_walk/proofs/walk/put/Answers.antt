use Rattle.std.proofs.Common.{◌<◌, length, arith}
use Rattle.pair_walk.proofs.Steps.{put_is}
use Rattle.pair_walk.proofs.walk.put.Goals as goal

pub returns-clause-marks : goal.returns-clause-marks
returns-clause-marks c =
    let room : c.args.written < length c.args.marks.now = omega (arith, c.if-written-marks.false) in
    put_is c.args.marks.now c.args.written c.args.place c.args.class c.if-class-eq0.false room
