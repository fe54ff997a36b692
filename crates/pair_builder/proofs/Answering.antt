-- What building answers, from what its steps answer. Assumes nothing.
use Rattle.std.proofs.Common.{◌≡◌, ℕ, ◌<◌, ◌≤◌, cond, leb, List, [], length, take, is_ok, IsErrAnd, IfOk, None, Ok, Err, Option, Result, sym, refl, ap, ◌∙◌, subst, inl, inr, arith}
use Rattle.std.proofs.lemmas.Result.{err_from_is_err_and, IfOk-weaker}
use Rattle.std.proofs.lemmas.Bool.{cases_lt, cond-false, lt-leb}
use Rattle.ternary.specs.declared.refusal.Refusal.{Refusal}
use Rattle.ternary.specs.declared.refusal.Refusal.TheVariants.{OutputTooShort, TooManyEntries}
use Rattle.ternary.specs.Refusals.{KnownBy, number, values, refuse_or}
use Rattle.fields.specs.Fields.{written}
use Rattle.automaton.specs.Limits.{Handed, Within, dfa}
use Rattle.pair_image.specs.Calls.{image_size, pack_answer, pack_after}
use Rattle.pair_image.specs.Format.{Parts, decode, encode}
use Rattle.pair_image.specs.Rules.{fault, parts_fault}
use Rattle.pair_image.proofs.Packs.{packed_answer, packed_after}
use Rattle.forest.specs.Plan.{PlanAnswer}
use Rattle.pair_table.specs.Acceptance.{Acceptable}
use Rattle.builder.specs.Build.{work_needed}
use Rattle.pair_builder.specs.Build.{Declines, beyond, little, many, long, BuildAnswer, OverChosen, ShortestImage, parts_over}
use Rattle.pair_builder.specs.Unrolled.{pair_table}
use Rattle.pair_builder.specs.Choosing.{choice_of}
use Rattle.pair_builder.proofs.Blocks.{shortest_image}
use Rattle.pair_builder.proofs.Closing.{choice_chosen}
use Rattle.pair_builder.proofs.Lengths.{table_same, one_size}
use Rattle.pair_builder.proofs.Ruling.{keeps_rules, acceptable}

-- a refusal that is known by its number and values
known : (a : Handed) (work after : List ℕ) (room : ℕ) (why : Refusal) (n : ℕ) (vs : List ℕ) → KnownBy why n vs → Declines a work after room n vs → Declines a work after room (number why) (values why)
known a work after room why n vs k d = subst (λ (m : ℕ). Declines a work after room m (values why)) (sym k.0) (subst (λ (us : List ℕ). Declines a work after room n us) (sym k.1) d)

-- an answer that hands a refusal on
handed_on : {X : Type 0} (r : Result X Refusal) (why : Refusal) → IsErrAnd r (λ e. e ≡ why) → r ≡ Err why
handed_on r why by = let out = err_from_is_err_and r by in out.1 ∙ ap Err out.2

-- planning declines
pub plan_declined : (a : Handed) (work after out : List ℕ) (r : Result ℕ Refusal) (why : Refusal) → IsErrAnd r (λ e. e ≡ why) → PlanAnswer a work after (Err why) → BuildAnswer a work after out out r
plan_declined a work after out r why by told =
    subst (BuildAnswer a work after out out) (sym (handed_on r why by)) (
      refl,
      elim told.1 [
        | inl (k, over) ↦ known a work after (length out) why 1 [] k (beyond over told.0)
        | inr (k, within, short) ↦ known a work after (length out) why 2 [] k (little within short told.0)
      ],
    )

-- gathering declines
pub gather_declined : (a : Handed) (work after out : List ℕ) (r : Result ℕ Refusal) (why : Refusal) → IsErrAnd r (λ e. e ≡ why) →
    Within a → work_needed a ≤ length work → (why ≡ TooManyEntries) × (4096 < length (pair_table (dfa a) (choice_of (dfa a)))) → BuildAnswer a work after out out r
gather_declined a work after out r why by within enough refused =
    subst (BuildAnswer a work after out out) (sym (handed_on r why by ∙ ap Err refused.0))
    (refl, many within enough (λ p chosen. omega (arith, refused.1, table_same (dfa a) p (choice_of (dfa a)) chosen (choice_chosen (dfa a)))))

-- ---- packing

short_answer : (p : Parts) (room : ℕ) → parts_fault p ≡ None → room < image_size p → pack_answer p room ≡ Err OutputTooShort
short_answer p room none h =
    ap (λ (f : Option ℕ). refuse_or f (cond (leb (image_size p) room) (Ok (image_size p)) (Err OutputTooShort))) none
    ∙ cond-false (leb (image_size p) room) (Ok (image_size p)) (Err OutputTooShort) (lt-leb (image_size p) room h)

short_after : (p : Parts) (out : List ℕ) → parts_fault p ≡ None → length out < image_size p → pack_after p out ≡ out
short_after p out none h = cond-false (is_ok (pack_answer p (length out))) (written out 0 (encode p)) out (ap is_ok (short_answer p (length out) none h))

module _ (a : Handed) (within : Within a) (few : length (pair_table (dfa a) (choice_of (dfa a))) ≤ 4096) where
  pub packed : (work after out out' : List ℕ) (r : Result ℕ Refusal) → work_needed a ≤ length work →
      r ≡ pack_answer (parts_over (dfa a) (choice_of (dfa a))) (length out) → out' ≡ pack_after (parts_over (dfa a) (choice_of (dfa a))) out → BuildAnswer a work after out out' r
  packed work after out out' r enough is leaves =
      let p : Parts = parts_over (dfa a) (choice_of (dfa a)) in
      let none = keeps_rules a within few in
      elim (cases_lt (length out) (image_size p)) [
        | inl short ↦
            subst (BuildAnswer a work after out out') (sym (is ∙ short_answer p (length out) none short))
            (leaves ∙ short_after p out none short, long within enough (record { choice = choice_of (dfa a); chosen = choice_chosen (dfa a); few = few; short = short }))
        | inr fits ↦
            subst (BuildAnswer a work after out out') (sym (is ∙ packed_answer p (length out) none fits))
            (within, enough, record { choice = choice_of (dfa a); chosen = choice_chosen (dfa a); few = few; sized = refl; room = fits; image = leaves ∙ packed_after p out none fits; sole = λ others too. one_size (dfa a) (choice_of (dfa a)) others (choice_chosen (dfa a)) too })
      ]

-- what packing says of its bytes makes the image acceptable, and the entries behind each shadow those of a shortest list
abbrev pub SaysParts : Handed → List ℕ → ℕ → Type 0
SaysParts a out size = (fault (take size out) ≡ None) × (decode (take size out) ≡ parts_over (dfa a) (choice_of (dfa a)))

pub parts_from_says : (a : Handed) → length (pair_table (dfa a) (choice_of (dfa a))) ≤ 4096 → (out : List ℕ) (r : Result ℕ Refusal) → IfOk r (SaysParts a out) → IfOk r (λ size. OverChosen (dfa a) (decode (take size out)))
parts_from_says a few out r = IfOk-weaker r (SaysParts a out) (λ size. OverChosen (dfa a) (decode (take size out)))
    (λ size says. record { choice = choice_of (dfa a); chosen = choice_chosen (dfa a); few = few; over = says.1 })

pub accepted_from : (a : Handed) → Within a → (out : List ℕ) (r : Result ℕ Refusal) → IfOk r (SaysParts a out) → IfOk r (λ size. Acceptable a (take size out))
accepted_from a within out r = IfOk-weaker r (SaysParts a out) (λ size. Acceptable a (take size out)) (λ size says. acceptable a within (take size out) says.0 says.1)

pub shortest_from : (a : Handed) (out : List ℕ) (r : Result ℕ Refusal) → IfOk r (SaysParts a out) → IfOk r (λ size. ShortestImage (dfa a) (take size out))
shortest_from a out r = IfOk-weaker r (SaysParts a out) (λ size. ShortestImage (dfa a) (take size out)) (λ size says. shortest_image (dfa a) (choice_of (dfa a)) (choice_chosen (dfa a)) (take size out) says.1)
