-- What the calls answer and leave. Assumes nothing.
use Rattle.std.specs.Prelude.{◌≡◌, ℕ, cond, List, length, is_ok, None, Ok, Err, Result, nat_le, slice_index}
use Rattle.ternary.specs.declared.refusal.Refusal.{Refusal}
use Rattle.ternary.specs.declared.refusal.Refusal.TheVariants.{OutputTooShort}
use Rattle.ternary.specs.Refusals.{refuse_or}
use Rattle.fields.specs.Fields.{word, written}
use Rattle.pair_image.specs.declared.reader.Header.{Header}
use Rattle.pair_image.specs.declared.reader.Image.{Image}
use Rattle.pair_image.specs.Format.{Parts, size, encode, decode}
use Rattle.pair_image.specs.Rules.{fault, parts_fault}

-- the header that some bytes say
abbrev pub header_in : List ℕ → Header
header_in bs = record { width = slice_index bs 5; states = word bs 6; start = record { 0 = word bs 8 }; entries = word bs 10 }

-- the header of some parts
abbrev pub header_of : Parts → Header
header_of p = record { width = p.width; states = length p.codes; start = p.start; entries = length p.entries }

-- the bytes that an image holds
abbrev pub held : Image → List ℕ
held image = image.bytes.now

-- the parts of an image
abbrev pub parts_of : Image → Parts
parts_of image = decode (held image)

-- an image of accepted bytes holds these bytes; they have no fault, and they are what its parts pack to
pub record Accepted (bs : List ℕ) (image : Image) : Type 0 where
  pub holds : held image ≡ bs
  pub sound : fault bs ≡ None
  pub parts : parts_fault (parts_of image) ≡ None
  pub bytes : encode (parts_of image) ≡ bs

-- the size of the image of some parts
abbrev pub image_size : Parts → ℕ
image_size p = size (length p.codes) (length p.entries)

-- what packing answers with room for some bytes: a fault before a short output, or the size
abbrev pub pack_answer : Parts → ℕ → Result ℕ Refusal
pack_answer p room = refuse_or (parts_fault p) (cond (nat_le (image_size p) room) (Ok (image_size p)) (Err OutputTooShort))

-- what packing leaves in the output: the image over its first bytes, or the output as it was
abbrev pub pack_after : Parts → List ℕ → List ℕ
pack_after p out = cond (is_ok (pack_answer p (length out))) (written out 0 (encode p)) out
