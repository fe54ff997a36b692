-- The table of a file that was read.
use Rattle.std.proofs.Common.{◌≡◌, ℕ, ◌≤◌, List, length, Some, None, Ok, Err, Option, Result, sym, refl, ap, ◌∙◌, subst, arith, MatchResult}
use Rattle.std.specs.Option.{option_map}
use Rattle.std.proofs.lemmas.Nat.{mul-le}
use Rattle.ternary.specs.declared.refusal.Refusal.{Refusal}
use Rattle.ternary.specs.declared.refusal.Refusal.TheVariants.{Malformed, OutputTooShort, TooManyEntries}
use Rattle.ternary.specs.Refusals.{number, values, refusal_text}
use Rattle.ternary.proofs.Telling.{known_one}
use Rattle.automaton.specs.declared.words.Header.{Header}
use Rattle.automaton.specs.Limits.{Handed, Within, dfa}
use Rattle.image.specs.declared.reader.Image.{Image}
use Rattle.image.specs.Calls.{Accepted, parts_of}
use Rattle.image.specs.Format.{decode}
use Rattle.image.specs.Rules.{fault}
use Rattle.builder.specs.Build.{BuildAnswer, Declines, beyond, little, many, long, OverShortest, RoomSuffices, TooMany}
use Rattle.printed.specs.declared.reading.SmallAutomaton.{SmallAutomaton}
use Rattle.printed.specs.Images.{FileImage, FileTable, image_text, table, many as many_entries}
use Rattle.printed.specs.Lines.{ended}
use Rattle.printed.specs.Small.{held, ReadSmall}

-- where an automaton of at most 64 states is refused a table, it needs too many entries
refused_for : (a : Handed) → Within a → a.states ≤ 64 → (work after : List ℕ) → length work ≡ 12288 → (room : ℕ) → 37900 ≤ room → (why : Refusal) (n : ℕ) (vs : List ℕ) → (number why ≡ n) × (values why ≡ vs) → Declines a work after room n vs → RoomSuffices room (Err why) → (why ≡ TooManyEntries) × TooMany (dfa a)
refused_for a within few work after enough room roomy why n vs known (beyond non same) suffices = absurd (non within)
refused_for a within few work after enough room roomy why n vs known (little w less same) suffices = absurd (omega (arith, mul-le a.states a.states 64 64 few few))
refused_for a within few work after enough room roomy why n vs known (many w e more) suffices = (known_one why TooManyEntries known, more)
refused_for a within few work after enough room roomy why n vs known (long w e l) suffices = absurd (suffices roomy (ap Err (known_one why OutputTooShort known)))

some_none : {X : Type 0} (x : X) → ◌≡◌ {A = Option X} None (Some x) → ⊥
some_none x e = let z : ◌≡◌ {A = ℕ} 0 1 = cc in omega arith

module _ (file : List ℕ) (s : SmallAutomaton) (a : Handed) (is : a ≡ held s) where
  pub file_refused : (x : Result Header Refusal) → ReadSmall file x s (Ok tt) → (work after out out' : List ℕ) → length work ≡ 12288 → 37900 ≤ length out → (why : Refusal) → BuildAnswer a work after out out' (Err why) → RoomSuffices (length out) (Err why) → (r : Result Image Refusal) → r ≡ Err why → FileImage file x r
  file_refused (Ok h) (header, same, within) work after out out' enough roomy why told suffices r e =
      let got = refused_for a (subst Within (sym is) within) (omega (arith, ap (λ (y : Handed). y.states) is, s.few)) work after enough (length out) roomy why _ _ (refl, refl) told.1 suffices in
      subst (FileImage file (Ok h)) (sym e) (got.0, subst (λ (y : Handed). TooMany (dfa y)) (is ∙ same) got.1)
  file_refused (Err why') read work after out out' enough roomy why told suffices r e = absurd (let z : ◌≡◌ {A = ℕ} 0 1 = cc in omega arith)

  pub file_built : (x : Result Header Refusal) → ReadSmall file x s (Ok tt) → (bytes : List ℕ) → OverShortest (dfa a) (decode bytes) → fault bytes ≡ None → (r : Result Image Refusal) → MatchResult r (λ image. Accepted bytes image) (λ refusal. option_map Malformed (fault bytes) ≡ Some refusal) → FileImage file x r
  file_built (Ok h) (header, same, within) bytes over none (Ok image) accepted =
      subst (λ (y : Handed). OverShortest (dfa y) (parts_of image)) (is ∙ same) (subst (λ (bs : List ℕ). OverShortest (dfa a) (decode bs)) (sym accepted.holds) over)
  file_built (Ok h) read bytes over none (Err why) refused = absurd (some_none why (ap (option_map Malformed) (sym none) ∙ refused))
  file_built (Err e) read bytes over none r told = absurd (let z : ◌≡◌ {A = ℕ} 0 1 = cc in omega arith)

-- what is printed of the image, or of its refusal
pub table_printed : (file : List ℕ) (x : Result Header Refusal) (image : Image) → FileImage file x (Ok image) → (text : List ℕ) → text ≡ image_text (parts_of image) → FileTable file x text
table_printed file (Ok h) image over text is = table (parts_of image) over is
table_printed file (Err e) image over text is = absurd (let z : ◌≡◌ {A = ℕ} 0 1 = cc in omega arith)

pub refusal_printed : (file : List ℕ) (x : Result Header Refusal) (e : Refusal) → FileImage file x (Err e) → (text : List ℕ) → text ≡ ended (refusal_text e) → FileTable file x text
refusal_printed file (Ok h) e (same, more) text is = many_entries more (is ∙ ap (λ (y : Refusal). ended (refusal_text y)) same)
refusal_printed file (Err e') e same text is = is ∙ ap (λ (y : Refusal). ended (refusal_text y)) (cc)
