use Rattle.std.proofs.Common.{◌≡◌, ◌-◌, ◌<◌, ◌++◌, ◌∷◌, length, ap, ◌∙◌, sym, refl, arith, append-nil, length-append}
use Rattle.fields.specs.Fields.{be32, written}
use Rattle.automaton.specs.File.{record_bytes}
use Rattle.automaton.specs.Sound.{meant}
use Rattle.automaton_writer.specs.Filed.{record_by, file_of}
use Rattle.automaton_writer.proofs.Files.{done, done-more, done-room, length-file, front, written-more, written-all}
use Rattle.automaton_writer.proofs.write.write_all.Goals as goal

pub loop-number-init : goal.loop-number-init
loop-number-init c =
    let a = meant c.args.automaton.now in
    let head : c.head.result ≡ 1 ∷ be32 (length (file_of a) - 5) ++ front a = c.head.ensures ∙ ap (λ n. 1 ∷ be32 (n - 5) ++ front a) c.requires.size in
    record {
      place = refl;
      long = c.put.auto.out;
      out = c.put.ensures ∙ ap (written c.args.out.now 0) (head ∙ sym (append-nil (1 ∷ be32 (length (file_of a) - 5) ++ front a)));
    }

pub put-requires-in-loop-number : goal.put-requires-in-loop-number
put-requires-in-loop-number c =
    let a = meant c.args.automaton.now in
    let s = c.loop-number.number in
    let below : s < a.states = omega (arith, c.loop-number-test.true, c.states-number-end.ensures) in
    omega (
      arith,
      c.loop-number.invariant.place,
      c.loop-number.invariant.long,
      ap length c.record_of-record.ensures.bytes,
      done-room a s below,
      length-file a,
      c.requires.size,
      c.requires.room,
    )

pub loop-number-preserved : goal.loop-number-preserved
loop-number-preserved c =
    let a = meant c.args.automaton.now in
    let s = c.loop-number.number in
    let below : s < a.states = omega (arith, c.loop-number-test.true, c.states-number-end.ensures) in
    let field = record_bytes (record_by (a.class s) (a.next s)) in
    let inv = c.loop-number.invariant in
    record {
      place = omega (arith, inv.place, c.size-at.ensures, ap length c.record_of-record.ensures.bytes, ap length (done-more a s below), length-append (done a s) field);
      long = c.put-in-loop-number.auto.out ∙ inv.long;
      out = written-more a c.args.out.now c.loop-number.out c.put-in-loop-number.new.out (1 ∷ be32 (length (file_of a) - 5) ++ front a) _ s c.loop-number.at below refl inv.place inv.out c.record_of-record.ensures.bytes c.put-in-loop-number.ensures;
    }

pub returns : goal.returns
returns c =
    let a = meant c.args.automaton.now in
    written-all a c.args.out.now c.loop-number.out (1 ∷ be32 (length (file_of a) - 5) ++ front a) c.loop-number.number
    (omega (arith, c.loop-number-test.false, c.states-number-end.ensures)) refl c.loop-number.invariant.out
