-- The outcome of compiling, case by case.
use Rattle.std.proofs.Common.{◌≡◌, ℕ, ◌*◌, ◌<◌, ◌≤◌, true, false, leb, cond, ◌⊎◌, List, [], length, Some, None, Ok, Err, sym, ap, ◌∙◌, ⊎_elim, arith}
use Rattle.std.proofs.lemmas.Bool.{cond-true, cond-false, and_from, and_left, and_right, le-leb, lt-leb, le-ltb}
use Rattle.automaton.specs.declared.words.Header.{Header}
use Rattle.automaton.specs.File.{state_no, room_for}
use Rattle.patterns.specs.Language.{Regex}
use Rattle.patterns.specs.Subsets.{Automaton, automaton_of, states_of}
use Rattle.syntax.specs.declared.places.place.Place.{Place}
use Rattle.syntax.specs.Compile.{outside, wrong_at, too_large, too_many_sets, built, texts_of, leaves, first_wrong, expressions, is_too_large, too_many, build_all, unless_wrong, compile}
use Rattle.compiler.specs.Compiled.{Told, header_of, answer_to}

module _ (buffer : List ℕ) (ps : List Place) where
  abbrev texts : List (List ℕ)
  texts = texts_of buffer ps

  abbrev regexes : List Regex
  regexes = expressions texts

  pub outside-is : leaves buffer ps ≡ true → compile buffer ps ≡ outside
  outside-is e = cond-true (leaves buffer ps) outside (unless_wrong (first_wrong 1 texts) (build_all texts)) e

  inside-is : leaves buffer ps ≡ false → compile buffer ps ≡ unless_wrong (first_wrong 1 texts) (build_all texts)
  inside-is e = cond-false (leaves buffer ps) outside (unless_wrong (first_wrong 1 texts) (build_all texts)) e

  pub wrong-is : leaves buffer ps ≡ false → (w : ℕ × ℕ) → first_wrong 1 texts ≡ Some w → compile buffer ps ≡ wrong_at w.0 w.1
  wrong-is e w f = inside-is e ∙ ap (λ o. unless_wrong o (build_all texts)) f

  right-is : leaves buffer ps ≡ false → first_wrong 1 texts ≡ None → compile buffer ps ≡ build_all texts
  right-is e f = inside-is e ∙ ap (λ o. unless_wrong o (build_all texts)) f

  pub large-is : leaves buffer ps ≡ false → first_wrong 1 texts ≡ None → is_too_large texts ≡ true → compile buffer ps ≡ too_large
  large-is e f g = right-is e f ∙ cond-true (is_too_large texts) too_large (cond (too_many regexes) too_many_sets (built (automaton_of regexes))) g

  small-is : leaves buffer ps ≡ false → first_wrong 1 texts ≡ None → is_too_large texts ≡ false → compile buffer ps ≡ cond (too_many regexes) too_many_sets (built (automaton_of regexes))
  small-is e f g = right-is e f ∙ cond-false (is_too_large texts) too_large (cond (too_many regexes) too_many_sets (built (automaton_of regexes))) g

  pub many-is : leaves buffer ps ≡ false → first_wrong 1 texts ≡ None → is_too_large texts ≡ false → too_many regexes ≡ true → compile buffer ps ≡ too_many_sets
  many-is e f g h = small-is e f g ∙ cond-true (too_many regexes) too_many_sets (built (automaton_of regexes)) h

  pub built-is : leaves buffer ps ≡ false → first_wrong 1 texts ≡ None → is_too_large texts ≡ false → too_many regexes ≡ false → compile buffer ps ≡ built (automaton_of regexes)
  built-is e f g h = small-is e f g ∙ cond-false (too_many regexes) too_many_sets (built (automaton_of regexes)) h

pub not-too-many : (rs : List Regex) → length (states_of rs) ≤ 512 → too_many rs ≡ false
unfolding too_many
not-too-many rs h = le-ltb 512 (length (states_of rs)) h

module _ (a : Automaton) (n m count : ℕ) (is : a.states ≡ count) where
  pub room-is : 256 * count ≤ n → count ≤ m → room_for a.states n m ≡ true
  room-is x y = and_from (leb (256 * a.states) n) (leb a.states m) (le-leb (256 * a.states) n (omega (arith, is))) (le-leb a.states m (omega (arith, is)))

  pub answer-ok : 256 * count ≤ n → count ≤ m → Ok (record { states = count; start = state_no 0 }) ≡ answer_to (built a) n m
  answer-ok x y =
      ap (λ k. let h : Header = record { states = k; start = state_no 0 } in let r : Told = Ok h in r) (sym is)
      ∙ sym (cond-true (room_for a.states n m) (Ok (header_of a)) (Err (3, [])) (room-is x y))

  pub answer-short : (n < 256 * count) ⊎ (m < count) → Err (3, []) ≡ answer_to (built a) n m
  answer-short h =
      sym (cond-false (room_for a.states n m) (Ok (header_of a)) (Err (3, []))
      (⊎_elim
      (λ x. and_left (leb (256 * a.states) n) (leb a.states m) (lt-leb (256 * a.states) n (omega (arith, is))))
      (λ x. and_right (leb (256 * a.states) n) (leb a.states m) (lt-leb a.states m (omega (arith, is))))
      h))
