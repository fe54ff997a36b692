use Rattle.std.proofs.Common.{ℕ, take, replicate}
use lib.ListN.{length-replicate}
use Rattle.ternary.proofs.Verdicts.{handed_on}
use Rattle.printed.proofs.TabulatedFiles.{file_refused, file_built}
use Rattle.printed.proofs.tabulating.image_of.Goals as goal

pub returns-in_err-size : goal.returns-in_err-size
returns-in_err-size c =
    file_refused c.args.file.now c.read.new.self _ c.automaton.ensures _ c.in_ok-read.ensures (replicate 12288 0) c.build.new.work c.args.out.now c.build.new.out (length-replicate {A = ℕ} 12288 0) c.requires.room
    c.in_err-size.field-0.0 c.in_err-size.ensures.answer c.in_err-size.ensures.suffices c.from_residual-in_err-size.result (handed_on c.from_residual-in_err-size.result _ c.from_residual-in_err-size.ensures.1)

pub returns : goal.returns
returns c =
    file_built c.args.file.now c.read.new.self _ c.automaton.ensures _ c.in_ok-read.ensures (take c.in_ok-size.size c.build.new.out)
    c.in_ok-size.ensures.parts c.in_ok-size.ensures.accepted.sound c.unpack.result c.unpack.ensures
