-- What filing patterns owes: their automaton, with its image. Assumes nothing.
use Rattle.std.specs.Prelude.{◌≡◌, ℕ, ◌⊎◌, List, [], ◌∷◌, Err, Result, MatchResult, vec_items, Vec}
use Rattle.std.specs.declared.alloc.Global.{Global}
use Rattle.ternary.specs.declared.refusal.Refusal.{Refusal}
use Rattle.ternary.specs.Refusals.{KnownBy}
use Rattle.automaton.specs.Limits.{Handed, Within, dfa}
use Rattle.patterns.specs.Language.{Word, Regex}
use Rattle.patterns.specs.Subsets.{Bytes}
use Rattle.syntax.specs.declared.places.place.Place.{Place}
use Rattle.syntax.specs.Compile.{texts_of, Mean}
use Rattle.compiler.specs.Compiled.{told, compile_answer}
use Rattle.compiler.specs.Laws.{Marks}
use Rattle.table.specs.Acceptance.{Acceptable}
use Rattle.builder.specs.Build.{TooMany}
use Rattle.table.specs.declared.filing.Filing.{Filing}
use Rattle.commission.specs.declared.words.Call.{Call}
use Rattle.commission.specs.declared.words.Call.TheVariants.{Load}
use Rattle.commission.specs.declared.words.Report.{Report}
use Rattle.table.specs.Filed.{filed}
use Rattle.commission.specs.Guarantee.{Guarantee}

-- the automaton keeps the limits, and over each input is in the state that has the input's class
pub record IsOf (rs : List Regex) (a : Handed) : Type 0 where
  pub within : Within a
  pub marks : (input : Word) → Bytes input → Marks rs (dfa a) input

-- the texts mean these expressions, whose automaton is filed with an image that a check accepts
pub record FiledOf (texts : List (List ℕ)) (f : Filing) : Type 0 where
  pub expressions : List Regex
  pub mean : Mean texts expressions
  pub automaton : IsOf expressions (filed f)
  pub image : Acceptable (filed f) (vec_items f.image)

-- why patterns are not filed: as a compiling declines that has room for every automaton, or by 4,
-- where no table of their automaton has 4,096 entries or fewer
abbrev pub Unfiled : List ℕ → List Place → Refusal → Type 0
Unfiled buffer ps why =
    (told (Err why) ≡ compile_answer buffer ps 131072 512)
    ⊎ (KnownBy why 4 [] × ((rs : List Regex) × Mean (texts_of buffer ps) rs
    × ((a : Handed) × IsOf rs a × TooMany (dfa a))))

-- what is owed of a filing
abbrev pub FilingAnswer : List ℕ → List Place → Result Filing Refusal → Type 0
FilingAnswer buffer ps answer = MatchResult answer (FiledOf (texts_of buffer ps)) (Unfiled buffer ps)

-- what is owed of its two steps
abbrev pub CompileAnswer : List ℕ → List Place → Result Filing Refusal → Type 0
CompileAnswer buffer ps answer =
    MatchResult answer
    (λ f. (rs : List Regex) × Mean (texts_of buffer ps) rs × IsOf rs (filed f))
    (λ why. told (Err why) ≡ compile_answer buffer ps 131072 512)

abbrev pub ImageAnswer : Handed → Result (Vec ℕ Global) Refusal → Type 0
ImageAnswer a answer =
    MatchResult answer
    (λ image. Acceptable a (vec_items image))
    (λ why. Within a → KnownBy why 4 [] × TooMany (dfa a))

-- the whole guarantee of a commission holds of what is filed, and of its load and the calls behind it
abbrev pub IsGuaranteed : Filing → ℕ → List Call → Report → Type 0
IsGuaranteed f capacity journey report =
    (work work' out out' : List ℕ)
    × Guarantee (filed f) (vec_items f.image) work work' out out' capacity (Load f ∷ journey) report
