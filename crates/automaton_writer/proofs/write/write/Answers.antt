use Rattle.std.proofs.Common.{◌≡◌, ℕ, ◌+◌, ◌<◌, length, get_or, take, drop, sym, ap, ◌∙◌, subst}
use Rattle.std.proofs.lemmas.List.{take_at}
use Rattle.fields.specs.Fields.{written}
use Rattle.automaton.specs.Limits.{handed, dfa, Within}
use Rattle.automaton_writer.specs.Filed.{file_of}
use Rattle.automaton_writer.specs.Writes.{ReadsBack}
use Rattle.automaton_writer.proofs.Files.{reads-back}
use Rattle.automaton_writer.proofs.write.write.Goals as goal

pub returns-clause-back : goal.returns-clause-back
returns-clause-back c =
    let h = handed c.args.automaton in
    let s = c.in_ok-automaton.automaton in
    let same : handed s.automaton ≡ h = ap handed c.in_ok-automaton.ensures in
    let small : (k : ℕ) → k < h.states → get_or h.classes k 0 < 256 = subst (λ x. (k : ℕ) → k < x.states → get_or x.classes k 0 < 256) same c.file_size-size.ensures.classes in
    let file = file_of (dfa h) in
    let long : c.file_size-size.result ≡ length file = c.file_size-size.ensures.size ∙ ap (λ x. length (file_of (dfa x))) same in
    let out : c.write_all.new.out ≡ written c.args.out.now 0 file = c.write_all.ensures ∙ ap (λ x. written c.args.out.now 0 (file_of (dfa x))) same in
    subst (ReadsBack h) (sym (ap (take c.file_size-size.result) out ∙ take_at file (drop (0 + length file) c.args.out.now) c.file_size-size.result (sym long)))
    (reads-back h small (subst Within same s.within))
