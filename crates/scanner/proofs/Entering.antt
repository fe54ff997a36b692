-- A load by an unpacked image, told of the image's bytes.
use Rattle.std.proofs.Common.{◌≡◌, ℕ, ◌+◌, ◌<◌, ◌≤◌, min, List, [], length, get_or, Some, None, Option, sym, ap, ◌∙◌, arith, length-drop}
use Rattle.std.specs.List.{slice_get}
use Rattle.std.proofs.lemmas.Option.{slice_get-get_or, slice_get_within}
use Rattle.image.proofs.Items.{left_none}
use Rattle.ternary.specs.declared.words.StateCode.{StateCode}
use Rattle.automaton.specs.Limits.{Handed}
use Rattle.image.specs.declared.reader.Header.{Header}
use Rattle.image.specs.declared.reader.Image.{Image}
use Rattle.image.specs.Calls.{Accepted, header_of, parts_of}
use Rattle.image.specs.Format.{Parts, decode}
use Rattle.image.proofs.Ruled.{ruled}
use Rattle.table.specs.Acceptance.{code_of, Acceptable}
use Rattle.scanner.specs.Book.{LoadRefuses, too_small}
use Rattle.scanner.specs.declared.scanner.Position.{Position}
use Rattle.scanner.specs.Scanners.{Seen, at_start, standing, Entered}

module _ (a : Handed) (bytes : List ℕ) (image : Image) (ok : Acceptable a bytes) (unpacked : Accepted bytes image) (h : Header) (is : h ≡ header_of (parts_of image)) where
  parts : parts_of image ≡ decode bytes
  parts = ap decode unpacked.holds

  -- as many entries as the header says, which are few
  pub count : h.entries ≡ length (decode bytes).entries
  count = ap (λ (x : Header). x.entries) is ∙ ap (λ (p : Parts). length p.entries) parts

  pub few : length (parts_of image).entries ≤ 4096
  few = (ruled (parts_of image) unpacked.parts).entries

  few_told : h.entries ≤ 4096
  few_told = omega (arith, few, ap (λ (x : Header). x.entries) is)

  -- more entries than the card says that it can hold
  pub exceeds : (s : Seen) (capacity : ℕ) → capacity ≡ min s.capacity 65535 → capacity < h.entries → LoadRefuses s.capacity a bytes 6 []
  exceeds s capacity told less = too_small ok (omega (arith, count, few_told))

  -- no more than that
  pub suffices : (size capacity : ℕ) → capacity ≡ min size 65535 → h.entries ≤ capacity → length (decode bytes).entries ≤ size
  suffices size capacity told room = omega (arith, count, few_told)

  -- as many places are free as the image's entries leave
  pub left_free : (free size : ℕ) → free + length (parts_of image).entries ≡ size → free + length (decode bytes).entries ≡ size
  left_free free size told = ap (λ (p : Parts). free + length p.entries) (sym parts) ∙ told

  -- the start state has a code
  pub start_coded : slice_get (parts_of image).codes a.start ≡ None → ⊥
  start_coded none =
      let beyond = ap length (left_none (parts_of image).codes a.start none) in
      let left = length-drop a.start (parts_of image).codes in
      let long : length (parts_of image).codes ≡ a.states = ap (λ (p : Parts). length p.codes) parts ∙ ok.agree.0 in
      omega (arith, ok.within.start_below)

  -- which is the image's
  pub start_code : (c : StateCode) → slice_get (parts_of image).codes a.start ≡ Some c → c ≡ code_of (decode bytes) a.start
  start_code c there =
      let e = slice_get-get_or (parts_of image).codes a.start (record { 0 = 0 }) (slice_get_within (parts_of image).codes a.start c there) in
      let same : c ≡ get_or (parts_of image).codes a.start (record { 0 = 0 }) = cc in
      same ∙ ap (λ (p : Parts). code_of p a.start) parts

  -- the card holds the entries, and the scanner stands at the start
  pub entered : (before after : Seen) (capacity : ℕ) (c : StateCode) → capacity ≡ min before.capacity 65535 → h.entries ≤ capacity → slice_get (parts_of image).codes a.start ≡ Some c
      → after.listed ≡ (parts_of image).entries → after.capacity ≡ before.capacity → after.position ≡ at_start c → Entered a bytes before after
  entered before after capacity c told room there listed same at = record {
    acceptable = ok;
    room = suffices before.capacity capacity told room;
    listed = listed ∙ ap (λ (p : Parts). p.entries) parts;
    capacity = same;
    position = at ∙ ap at_start (start_code c there);
  }

-- whoever stood there before, and wherever, so a load enters
pub entered_from : (a : Handed) (bytes : List ℕ) (before : Seen) (position : Option Position) (after : Seen) → Entered a bytes (standing before.listed before.capacity position) after → Entered a bytes before after
entered_from a bytes before position after e = record { acceptable = e.acceptable; room = e.room; listed = e.listed; capacity = e.capacity; position = e.position }
