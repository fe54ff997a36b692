-- What a refused pattern tells.
use Rattle.std.proofs.Common.{◌≡◌, ℕ, zero, suc, ◌+◌, ◌-◌, ◌<◌, ◌≤◌, Bool, true, false, cond, List, [], ◌∷◌, length, get_or, Some, None, Ok, Err, IfErr, Option, Result, sym, refl, ap, ◌∙◌, subst, arith}
use Rattle.ternary.specs.declared.refusal.Refusal.{Refusal}
use Rattle.ternary.specs.Refusals.{values, KnownBy}
use Rattle.automaton.specs.declared.words.Header.{Header}
use Rattle.automaton.specs.File.{room_for}
use Rattle.syntax.specs.declared.places.place.Place.{Place}
use Rattle.syntax.specs.Follow.{fault_of, tokens}
use Rattle.syntax.specs.Laws.{Judged, FirstFault}
use Rattle.syntax.specs.Compile.{Outcome, outside, wrong_at, too_large, too_many_sets, built, texts_of, leaves, or_later, first_wrong, expressions, Mean, is_too_large, too_many, build_all, unless_wrong, compile}
use Rattle.patterns.specs.Language.{Regex}
use Rattle.patterns.specs.Patterns.{Flags}
use Rattle.patterns.specs.Laws.{Distinct, Reached}
use Rattle.patterns.specs.Subsets.{Automaton, automaton_of, states_of}
use Rattle.patterns.proofs.Runs.{sets-stand}
use Rattle.syntax.proofs.Compiling.{means}
use Rattle.std.proofs.lemmas.Bool.{ltb-true}
use Rattle.syntax.proofs.Judging.{syntax-stands}
use Rattle.compiler.specs.Compiled.{Told, told, header_of, answer_to, compile_answer}
use Rattle.compiler.specs.Laws.{IsFirstWrong}

-- ---- what is told of an outcome

-- the number that is told, and its values; none of a header
abbrev number_in : Told → ℕ
number_in (Ok h) = 0
number_in (Err why) = why.0

abbrev values_in : Told → List ℕ
values_in (Ok h) = []
values_in (Err why) = why.1

-- what is told of a refusal that is known by a number and values
told-known : (why : Refusal) (n : ℕ) (vs : List ℕ) → KnownBy why n vs → told (Err why) ≡ Err (n, vs)
told-known why n vs known =
    let f : ℕ → Told = λ k. Err (k, values why) in
    let g : List ℕ → Told = λ us. Err (n, us) in
    ap f known.0 ∙ ap g known.1

-- ---- only a wrong pattern is answered as one

short-number : (b : Bool) (h : Header) (n : ℕ) → 19 ≤ n → number_in (cond b (Ok h) (Err (3, []))) ≡ n → ⊥
short-number true h n le e = let z : 0 ≡ n = e in omega arith
short-number false h n le e = let z : 3 ≡ n = e in omega arith

answer-wrong : (o : Outcome) (x y n place : ℕ) → answer_to o x y ≡ Err (19, n ∷ place ∷ []) → o ≡ wrong_at n place
answer-wrong outside x y n place e = let z : ◌≡◌ {A = ℕ} 14 19 = ap number_in e in absurd (omega arith)
answer-wrong (wrong_at p q) x y n place e =
    let vs = ap values_in e in
    let a : p ≡ n = ap (λ us. get_or us 0 0) vs in
    let b : q ≡ place = ap (λ us. get_or us 1 0) vs in
    ap (λ k. wrong_at k q) a ∙ ap (wrong_at n) b
answer-wrong too_large x y n place e = let z : ◌≡◌ {A = ℕ} 20 19 = ap number_in e in absurd (omega arith)
answer-wrong too_many_sets x y n place e = let z : ◌≡◌ {A = ℕ} 21 19 = ap number_in e in absurd (omega arith)
answer-wrong (built a) x y n place e = absurd (short-number (room_for a.states x y) (header_of a) 19 (omega arith) (ap number_in e))

choice-wrong : (b : Bool) (o rest : Outcome) (n place : ℕ) → (o ≡ wrong_at n place → ⊥) → cond b o rest ≡ wrong_at n place → rest ≡ wrong_at n place
choice-wrong true o rest n place never e = absurd (never e)
choice-wrong false o rest n place never e = e

never-built : (ts : List (List ℕ)) (n place : ℕ) → build_all ts ≡ wrong_at n place → ⊥
never-built ts n place e =
    let a = choice-wrong (is_too_large ts) too_large (cond (too_many (expressions ts)) too_many_sets (built (automaton_of (expressions ts)))) n place (λ x. let z : ◌≡◌ {A = ℕ} 0 1 = cc in omega arith) e in
    let b = choice-wrong (too_many (expressions ts)) too_many_sets (built (automaton_of (expressions ts))) n place (λ x. let z : ◌≡◌ {A = ℕ} 0 1 = cc in omega arith) a in
    let z : ◌≡◌ {A = ℕ} 0 1 = cc in omega arith

pairs-from : (v w : ℕ × ℕ) → ◌≡◌ {A = Option (ℕ × ℕ)} (Some v) (Some w) → (v.0 ≡ w.0) × (v.1 ≡ w.1)
pairs-from v w e = let same : v ≡ w = cc in (ap (λ (x : ℕ × ℕ). x.0) same, ap (λ (x : ℕ × ℕ). x.1) same)

some-pair : (a b n p : ℕ) → a ≡ n → b ≡ p → ◌≡◌ {A = Option (ℕ × ℕ)} (Some (a, b)) (Some (n, p))
some-pair a b n p x y =
    let f : ℕ → Option (ℕ × ℕ) = λ k. Some (k, b) in
    let g : ℕ → Option (ℕ × ℕ) = λ k. Some (n, k) in
    ap f x ∙ ap g y

unless-wrong : (o : Option (ℕ × ℕ)) (rest : Outcome) (n place : ℕ) → (rest ≡ wrong_at n place → ⊥) → unless_wrong o rest ≡ wrong_at n place → o ≡ Some (n, place)
unless-wrong None rest n place never e = absurd (never e)
unless-wrong (Some w) rest n place never e = let a : w.0 ≡ n = cc in let b : w.1 ≡ place = cc in some-pair w.0 w.1 n place a b

compiled-wrong : (buffer : List ℕ) (ps : List Place) (n place : ℕ) → compile buffer ps ≡ wrong_at n place → first_wrong 1 (texts_of buffer ps) ≡ Some (n, place)
compiled-wrong buffer ps n place e =
    let ts : List (List ℕ) = texts_of buffer ps in
    unless-wrong (first_wrong 1 ts) (build_all ts) n place (never-built ts n place)
    (choice-wrong (leaves buffer ps) outside (unless_wrong (first_wrong 1 ts) (build_all ts)) n place (λ x. let z : ◌≡◌ {A = ℕ} 0 1 = cc in omega arith) e)

-- ---- the first wrong pattern

-- the pattern of this index is the first that is wrong
record Found (ts : List (List ℕ)) (i n place : ℕ) : Type 0 where
  index : ℕ
  number : n ≡ i + index
  within : index < length ts
  fault : fault_of (get_or ts index []) ≡ Some place
  before : (k : ℕ) → k < index → fault_of (get_or ts k []) ≡ None

first-found : (ts : List (List ℕ)) (i n place : ℕ) → first_wrong i ts ≡ Some (n, place) → Found ts i n place
first-found [] i n place e = absurd (let z : ◌≡◌ {A = ℕ} 0 1 = cc in omega arith)
first-found (t ∷ ts) i n place e = go (first-found ts (suc i) n place) (fault_of t) refl e
  where
    here : (p : ℕ) → fault_of t ≡ Some p → ◌≡◌ {A = Option (ℕ × ℕ)} (Some (i, p)) (Some (n, place)) → Found (t ∷ ts) i n place
    here p f e' =
        let same = pairs-from (i, p) (n, place) e' in
        let a : i ≡ n = same.0 in
        let b : p ≡ place = same.1 in
        record { index = 0; number = omega arith; within = omega arith; fault = f ∙ ap Some b; before = λ k h. absurd (omega arith) }

    later : fault_of t ≡ None → Found ts (suc i) n place → Found (t ∷ ts) i n place
    later f h = record {
      index = suc h.index;
      number = omega (arith, h.number);
      within = omega (arith, h.within);
      fault = h.fault;
      before = earlier;
    }
      where
        earlier : (k : ℕ) → k < suc h.index → fault_of (get_or (t ∷ ts) k []) ≡ None
        earlier zero lt = f
        earlier (suc k) lt = h.before k (omega arith)

    go : (first_wrong (suc i) ts ≡ Some (n, place) → Found ts (suc i) n place) → (o : Option ℕ) → fault_of t ≡ o → or_later i o (first_wrong (suc i) ts) ≡ Some (n, place) → Found (t ∷ ts) i n place
    go rest None f e' = later f (rest e')
    go rest (Some p) f e' = here p f e'

pub tells-fault : (buffer : List ℕ) (ps : List Place) (answer : Result Header Refusal) (x y : ℕ) → told answer ≡ compile_answer buffer ps x y → IfErr answer (λ why. (n place : ℕ) → KnownBy why 19 (n ∷ place ∷ []) → IsFirstWrong (texts_of buffer ps) n place)
unfolding compile_answer
tells-fault buffer ps (Ok h) x y is = tt
tells-fault buffer ps (Err why) x y is = λ n place known.
    let ts : List (List ℕ) = texts_of buffer ps in
    let h = first-found ts 1 n place (compiled-wrong buffer ps n place (answer-wrong (compile buffer ps) x y n place (sym is ∙ told-known why 19 (n ∷ place ∷ []) known))) in
    let same : h.index ≡ n - 1 = omega (arith, h.number) in
    record {
      some = omega (arith, h.number);
      within = omega (arith, h.number, h.within);
      fault = subst (λ k. let text : List ℕ = get_or ts k [] in FirstFault (tokens (length text) text) place) same
          (subst (Judged (tokens (length (get_or ts h.index [])) (get_or ts h.index []))) h.fault (syntax-stands (get_or ts h.index [])));
      before = λ k lt. subst (Judged (tokens (length (get_or ts k [])) (get_or ts k []))) (h.before k (omega (arith, h.number))) (syntax-stands (get_or ts k []));
    }

-- ---- too many sets

answer-many : (o : Outcome) (x y : ℕ) → answer_to o x y ≡ Err (21, []) → o ≡ too_many_sets
answer-many outside x y e = let z : ◌≡◌ {A = ℕ} 14 21 = ap number_in e in absurd (omega arith)
answer-many (wrong_at p q) x y e = let z : ◌≡◌ {A = ℕ} 19 21 = ap number_in e in absurd (omega arith)
answer-many too_large x y e = let z : ◌≡◌ {A = ℕ} 20 21 = ap number_in e in absurd (omega arith)
answer-many too_many_sets x y e = refl
answer-many (built a) x y e = absurd (short-number (room_for a.states x y) (header_of a) 21 (omega arith) (ap number_in e))

choice-many : (b : Bool) (o rest : Outcome) → (o ≡ too_many_sets → ⊥) → cond b o rest ≡ too_many_sets → rest ≡ too_many_sets
choice-many true o rest never e = absurd (never e)
choice-many false o rest never e = e

unless-many : (o : Option (ℕ × ℕ)) (rest : Outcome) → unless_wrong o rest ≡ too_many_sets → (o ≡ None) × (rest ≡ too_many_sets)
unless-many None rest e = (refl, e)
unless-many (Some w) rest e = absurd (let z : ◌≡◌ {A = ℕ} 0 1 = cc in omega arith)

last-many : (b : Bool) (a : Automaton) → cond b too_many_sets (built a) ≡ too_many_sets → b ≡ true
last-many true a e = refl
last-many false a e = absurd (let z : ◌≡◌ {A = ℕ} 0 1 = cc in omega arith)

over-many : (rs : List Regex) → too_many rs ≡ true → 512 < length (states_of rs)
unfolding too_many
over-many rs e = ltb-true 512 (length (states_of rs)) e

pub tells-too-many : (buffer : List ℕ) (ps : List Place) (answer : Result Header Refusal) (x y : ℕ) → told answer ≡ compile_answer buffer ps x y → IfErr answer (λ why. KnownBy why 21 [] → (rs : List Regex) × Mean (texts_of buffer ps) rs × ((ss : List Flags) × (512 < length ss) × Distinct ss × Reached rs ss))
unfolding compile_answer
tells-too-many buffer ps (Ok h) x y is = tt
tells-too-many buffer ps (Err why) x y is = λ known.
    let ts : List (List ℕ) = texts_of buffer ps in
    let rs : List Regex = expressions ts in
    let many : compile buffer ps ≡ too_many_sets = answer-many (compile buffer ps) x y (sym is ∙ told-known why 21 [] known) in
    let a = choice-many (leaves buffer ps) outside (unless_wrong (first_wrong 1 ts) (build_all ts)) (λ z. let w : ◌≡◌ {A = ℕ} 0 1 = cc in omega arith) many in
    let b = unless-many (first_wrong 1 ts) (build_all ts) a in
    let d = choice-many (is_too_large ts) too_large (cond (too_many rs) too_many_sets (built (automaton_of rs))) (λ z. let w : ◌≡◌ {A = ℕ} 0 1 = cc in omega arith) b.1 in
    let over : 512 < length (states_of rs) = over-many rs (last-many (too_many rs) (automaton_of rs) d) in
    (rs, means ts 1 b.0, (states_of rs, over, (sets-stand rs).0, (sets-stand rs).1))
