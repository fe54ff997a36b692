-- What taking patterns into service owes. Assumes nothing.
use Rattle.std.specs.Prelude.{◌≡◌, ℕ, true, List, [], ◌∷◌, map, take, Some, is_ok, Result, MatchResult, vec_items}
use Rattle.ternary.specs.declared.refusal.Refusal.{Refusal}
use Rattle.automaton.specs.Limits.{dfa}
use Rattle.patterns.specs.Subsets.{Bytes}
use Rattle.syntax.specs.declared.places.place.Place.{Place}
use Rattle.syntax.specs.Compile.{texts_of}
use Rattle.table.specs.declared.filing.Filing.{Filing}
use Rattle.commission.specs.declared.words.Call.{Call}
use Rattle.commission.specs.declared.words.Call.TheVariants.{Load}
use Rattle.table.specs.Filed.{filed}
use Rattle.commission.specs.Journeys.{nothing, logged, told as told_of}
use Rattle.pattern_service.specs.declared.service.Served.{Served}
use Rattle.pattern_service.specs.Filed.{FiledOf, Unfiled, IsGuaranteed}
use Rattle.pattern_service.specs.MarkedBy.{MarkedBy}

-- the patterns are in service: filed, checked, loaded on a new scanner over a card of this capacity,
-- which then makes the calls of a journey
pub record Serves (texts : List (List ℕ)) (capacity : ℕ) (journey : List Call) (s : Served) : Type 0 where
  pub filing : Filing
  pub of_texts : FiledOf texts filing
  pub calls : vec_items s.calls ≡ Load filing ∷ journey
  -- the check accepts the image
  pub checked : is_ok s.report.vendor ≡ true
  -- the whole guarantee of a commission holds of the automaton, its image and all calls
  pub guarantee : IsGuaranteed filing capacity journey s.report
  -- after each call, as long as no other automaton is loaded, all marks since the load or the latest
  -- accepted restart are those that the patterns give the bytes taken since
  pub marks : (n : ℕ) →
      let log = logged nothing (take n (Load filing ∷ journey))
      (take n (map told_of (vec_items s.report.answers))) in
      log.loaded ≡ Some (dfa (filed filing)) → Bytes log.bytes
      → MarkedBy of_texts.expressions [] log.bytes log.placed

-- what is owed of an answer
abbrev pub ServiceAnswer : List ℕ → List Place → ℕ → List Call → Result Served Refusal → Type 0
ServiceAnswer buffer ps capacity journey answer =
    MatchResult answer (Serves (texts_of buffer ps) capacity journey) (Unfiled buffer ps)
