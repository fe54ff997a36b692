use Rattle.std.proofs.Common.{◌≡◌, ℕ, ◌+◌, sym, ap, ◌∙◌}
use Rattle.card.specs.declared.tandem.Tandem.{Tandem}
use Rattle.card.specs.Tandem.{both, free_of}
use Rattle.card.proofs.InTandem.{free_of_second, free_of_full, into_first, accepted, declined, to_second}
use Rattle.card.proofs.tandem.TandemCard.append.Given as given
use Rattle.card.proofs.tandem.TandemCard.append.Goals as goal
use Rattle.card.proofs.tandem.TandemCard.append.Goals.{else-is_empty-via-then-is_empty+else-is_ok, else-is_empty-via-else-is_empty}

pub returns-then-is_ok : goal.returns-then-is_ok
returns-then-is_ok g c = record {
  cases = into_first _ _ _ _ _ _ _ (sym c.if-is_empty.ensures) (accepted c.append.result _ _ (sym c.if-is_ok.ensures.value) c.append.ensures.cases);
  same_size = ap (λ (n : ℕ). n + g.B.Card.size c.args.self.now.second) c.append.ensures.same_size;
}

-- what is left to the second card finds both cards as they were
same : (g : given.Over) (c : goal.After-append-2 g) → c.else-is_empty.self ≡ c.args.self.now
same g c = elim c.else-is_empty.branch [
  | else-is_empty-via-then-is_empty+else-is_ok w ↦
      let no = declined w.append.result _ _ (sym w.if-is_ok.ensures.value) w.append.ensures.cases in
      w.self-is ∙ ap (λ first. record { first = first; second = c.args.self.now.second }) no.1.unchanged
  | else-is_empty-via-else-is_empty w ↦ w.self-is
]

-- and the second card's free count is the tandem's
counts : (g : given.Over) (c : goal.After-append-2 g)
    → free_of (g.A.Card.free c.args.self.now.first) (g.B.Card.free c.args.self.now.second) (g.B.Card.entries c.args.self.now.second) ≡ g.B.Card.free c.args.self.now.second
counts g c = elim c.else-is_empty.branch [
  | else-is_empty-via-then-is_empty+else-is_ok w ↦
      let no = declined w.append.result _ _ (sym w.if-is_ok.ensures.value) w.append.ensures.cases in
      free_of_full _ _ _ no.1.full
  | else-is_empty-via-else-is_empty w ↦ free_of_second _ _ _ (sym w.if-is_empty.ensures)
]

pub returns : goal.returns
returns g c =
    let size = λ (t : Tandem g.row.A.Denot g.row.B.Denot). both (g.A.Card.size t.first) (g.B.Card.size t.second) in
    record {
      cases = to_second g.A.Card.entries g.A.Card.free g.B.Card.entries g.B.Card.free c.args.e c.args.self.now c.else-is_empty.self c.append-2.new.self c.append-2.result (same g c) (counts g c) c.append-2.ensures.cases;
      same_size = ap (λ (n : ℕ). both (g.A.Card.size c.else-is_empty.self.first) n) c.append-2.ensures.same_size ∙ ap size (same g c);
    }
