use Rattle.std.proofs.Common.{◌≡◌, ◌*◌, length, take, drop, sym, ap, ◌∙◌, subst, arith}
use Rattle.std.proofs.lemmas.List.{take_at}
use Rattle.automaton.specs.Limits.{Handed, Within, dfa}
use Rattle.automaton.specs.Laws.{held_in}
use Rattle.patterns.specs.Language.{Word}
use Rattle.patterns.specs.Subsets.{Bytes}
use Rattle.compiler.specs.Laws.{Marks}
use Rattle.pattern_service.proofs.service.compiled.Goals as goal

pub returns-in-Ok : goal.returns-in-Ok
returns-in-Ok c =
    let h = c.in-Ok.header in
    let successors = c.compile.new.successors in
    let classes = c.compile.new.classes in
    let old_successors = c.in_ok-successors.successors in
    let old_classes = c.in_ok-classes.classes in
    let rows : c.truncate.new.self.items ≡ take (256 * h.states) successors =
    c.truncate.ensures.items
    ∙ ap (take (256 * h.states)) (take_at successors (drop (length successors) old_successors.items) old_successors.len
    (omega (arith, c.compile.auto.successors, c.as_mut_slice.ensures.len))) in
    let marks : c.truncate-in-Ok.new.self.items ≡ take h.states classes =
    c.truncate-in-Ok.ensures.items
    ∙ ap (take h.states) (take_at classes (drop (length classes) old_classes.items) old_classes.len
    (omega (arith, c.compile.auto.classes, c.as_mut_slice-2.ensures.len))) in
    let same : held_in h successors classes ≡ record { states = h.states; start = h.start.0; successors = c.truncate.new.self.items; classes = c.truncate-in-Ok.new.self.items } =
    (λ i. record { states = h.states; start = h.start.0; successors = sym rows i; classes = sym marks i }) in
    let of = c.in-Ok.ensures.marks in (
      of.0,
      of.1,
      record {
        within = subst Within same c.in-Ok.ensures.limits;
        marks = subst (λ (a : Handed). (input : Word) → Bytes input → Marks of.0 (dfa a) input) same of.2;
      },
    )
