-- The marks of an automaton that follows the patterns are those of the patterns.
use Rattle.std.proofs.Common.{◌≡◌, ℕ, zero, suc, ◌+◌, ◌<◌, ◌≤◌, List, [], ◌∷◌, ◌++◌, map, length, take, Some, vec_items, sym, refl, ap, ◌∙◌, subst, arith, length-append}
use Rattle.std.proofs.lemmas.List.{length-map}
use Rattle.automaton.specs.Runs.{Dfa, reach, marks}
use Rattle.automaton.specs.Limits.{dfa}
use Rattle.patterns.specs.Language.{Word, Regex}
use Rattle.patterns.specs.Patterns.{Class}
use Rattle.patterns.specs.Subsets.{Bytes}
use Rattle.compiler.specs.Laws.{Marks}
use Rattle.scanner.specs.Book.{Told}
use Rattle.table.specs.declared.filing.Filing.{Filing}
use Rattle.commission.specs.declared.words.Call.{Call}
use Rattle.commission.specs.declared.words.Call.TheVariants.{Load}
use Rattle.commission.specs.declared.words.Report.{Report}
use Rattle.table.specs.Filed.{filed}
use Rattle.commission.specs.Journeys.{Log, nothing, entered, logged, told, MarksOf}
use Rattle.pattern_service.specs.Filed.{FiledOf, IsGuaranteed}
use Rattle.pattern_service.specs.MarkedBy.{MarkedBy, none_left, one_more}

reach-snoc : (a : Dfa) (s : ℕ) (w : Word) (b : ℕ) → reach a s (w ++ b ∷ []) ≡ a.next (reach a s w) b
reach-snoc a s [] b = refl
reach-snoc a s (c ∷ w) b = reach-snoc a (a.next s c) w b

bytes-snoc : (w : Word) (b : ℕ) → Bytes w → b < 256 → Bytes (w ++ b ∷ [])
bytes-snoc [] b h lt = (lt, tt)
bytes-snoc (c ∷ w) b h lt = (h.0, bytes-snoc w b h.1 lt)

module _ (rs : List Regex) (a : Dfa) (all : (input : Word) → Bytes input → Marks rs a input) where
  pub marked-by : (before bytes : Word) → Bytes before → Bytes bytes → MarkedBy rs before bytes (marks a (reach a a.start before) (length before) bytes)
  marked-by before [] x y = none_left
  marked-by before (b ∷ bs) x y =
      let longer : Word = before ++ b ∷ [] in
      let s : ℕ = reach a a.start before in
      let to : reach a a.start longer ≡ a.next s b = reach-snoc a a.start before b in
      let place : length longer ≡ length before + 1 = length-append before (b ∷ []) in
      let is : Bytes longer = bytes-snoc before b x y.0 in
      let rest : MarkedBy rs longer bs (marks a (reach a a.start longer) (length longer) bs) = marked-by longer bs is y.1 in
      one_more b (a.class (a.next s b)) (subst (λ t. Class rs longer (a.class t)) to (all longer is).class)
      (subst (MarkedBy rs longer bs) (ap (λ t. marks a t (length longer) bs) to ∙ ap (λ n. marks a (a.next s b) n bs) place) rest)

-- calls that got no answer are not in the log
logged-short : (n k : ℕ) (log : Log) (calls : List Call) (ts : List Told) → length ts ≤ k → logged log (take n (take k calls)) (take n ts) ≡ logged log (take n calls) (take n ts)
logged-short zero k log calls ts h = refl
logged-short (suc n) zero log [] ts h = refl
logged-short (suc n) (suc k) log [] ts h = refl
logged-short (suc n) zero log (c ∷ cs) [] h = refl
logged-short (suc n) (suc k) log (c ∷ cs) [] h = refl
logged-short (suc n) zero log (c ∷ cs) (t ∷ ts) h = absurd (omega arith)
logged-short (suc n) (suc k) log (c ∷ cs) (t ∷ ts) h = logged-short n k (entered log c t) cs ts (omega arith)

-- after each call, the marks are those of the patterns
pub marks-of-texts : (texts : List (List ℕ)) (f : Filing) (capacity : ℕ) (journey : List Call) (report : Report) (of : FiledOf texts f) → IsGuaranteed f capacity journey report → (n : ℕ) →
    let log = logged nothing (take n (Load f ∷ journey)) (take n (map told (vec_items report.answers))) in
    log.loaded ≡ Some (dfa (filed f)) → Bytes log.bytes → MarkedBy of.expressions [] log.bytes log.placed
marks-of-texts texts f capacity journey report of guaranteed n loaded bytes =
    let calls : List Call = Load f ∷ journey in
    let ran = guaranteed.4.journey in
    let same : map told (vec_items report.answers) ≡ map told ran.answers = ap (map told) ran.added in
    let log : Log = logged nothing (take n calls) (take n (map told (vec_items report.answers))) in
    let short : logged nothing (take n (take (length ran.answers) calls)) (take n (map told ran.answers)) ≡ log =
    logged-short n (length ran.answers) nothing calls (map told ran.answers) (omega (arith, length-map ran.answers told))
    ∙ ap (λ ts. logged nothing (take n calls) (take n ts)) (sym same) in
    let law : MarksOf log.loaded log.bytes log.placed = subst (λ (l : Log). MarksOf l.loaded l.bytes l.placed) short (ran.lawful.journeys n) in
    let own : log.placed ≡ marks (dfa (filed f)) (dfa (filed f)).start 0 log.bytes = subst (λ o. MarksOf o log.bytes log.placed) loaded law in
    subst (MarkedBy of.expressions [] log.bytes) (sym own) (marked-by of.expressions (dfa (filed f)) of.automaton.marks [] log.bytes tt bytes)
