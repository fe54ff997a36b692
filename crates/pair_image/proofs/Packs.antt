-- What packing answers and leaves when nothing is refused.
use Rattle.std.proofs.Common.{◌≡◌, ℕ, ◌+◌, ◌*◌, ◌≤◌, cond, leb, List, ◌++◌, length, take, drop, is_ok, None, Ok, Err, Option, refl, ap, ◌∙◌, append_assoc, arith, length-append}
use Rattle.std.specs.List.{flat_map}
use Rattle.std.proofs.lemmas.List.{take_at}
use Rattle.std.proofs.lemmas.Bool.{cond-true, le-leb}
use Rattle.ternary.specs.declared.refusal.Refusal.TheVariants.{OutputTooShort}
use Rattle.ternary.specs.Refusals.{refuse_or}
use Rattle.fields.specs.Fields.{written}
use Rattle.fields.proofs.Writes.{written-written, length_joined}
use Rattle.pair_image.specs.Calls.{image_size, pack_after, pack_answer}
use Rattle.pair_image.specs.Format.{Parts, code_bytes, encode, entry_bytes, header_bytes}
use Rattle.pair_image.specs.Rules.{parts_fault}

pub packed_answer : (p : Parts) (room : ℕ) → parts_fault p ≡ None → image_size p ≤ room → pack_answer p room ≡ Ok (image_size p)
packed_answer p room none h =
    ap (λ (f : Option ℕ). refuse_or f (cond (leb (image_size p) room) (Ok (image_size p)) (Err OutputTooShort))) none
    ∙ cond-true (leb (image_size p) room) (Ok (image_size p)) (Err OutputTooShort) (le-leb (image_size p) room h)

pub packed_after : (p : Parts) (out : List ℕ) → parts_fault p ≡ None → image_size p ≤ length out → pack_after p out ≡ written out 0 (encode p)
packed_after p out none h =
    cond-true (is_ok (pack_answer p (length out))) (written out 0 (encode p)) out (ap is_ok (packed_answer p (length out) none h))

abbrev pub head_of : Parts → List ℕ
head_of p = header_bytes p.width (length p.codes) p.start.0 (length p.entries)

-- the header, the codes and the entries, written one after another
pub written-encode : (p : Parts) (out b1 b2 b3 head : List ℕ) → head ≡ head_of p → b1 ≡ written out 0 head → b2 ≡ written b1 12 (flat_map code_bytes p.codes) → b3 ≡ written b2 (12 + 2 * length p.codes) (flat_map entry_bytes p.entries) → b3 ≡ written out 0 (encode p)
written-encode p out b1 b2 b3 head h e1 e2 e3 =
    let codes : List ℕ = flat_map code_bytes p.codes in
    let entries : List ℕ = flat_map entry_bytes p.entries in
    let n : ℕ = length p.codes in
    let first : b1 ≡ written out 0 (head_of p) = e1 ∙ ap (written out 0) h in
    let second : b2 ≡ written out 0 (head_of p ++ codes) =
    e2 ∙ (ap (λ (l : List ℕ). written l 12 codes) first ∙ written-written out (head_of p) codes 0 12 refl (omega arith)) in
    let long : length codes ≡ 2 * n = length_joined code_bytes 2 (λ _. refl) p.codes in
    let there : 12 + 2 * n ≡ 0 + length (head_of p ++ codes) = omega (arith, length-append (head_of p) codes) in
    e3 ∙ (ap (λ (l : List ℕ). written l (12 + 2 * n) entries) second
    ∙ (written-written out (head_of p ++ codes) entries 0 (12 + 2 * n) there (omega arith)
    ∙ ap (written out 0) (append_assoc (head_of p) codes entries)))

pub length-encode : (p : Parts) → length (encode p) ≡ image_size p
length-encode p =
    let codes = length_joined code_bytes 2 (λ _. refl) p.codes in
    let entries = length_joined entry_bytes 12 (λ _. refl) p.entries in
    omega (arith, length-append (head_of p) (flat_map code_bytes p.codes ++ flat_map entry_bytes p.entries), length-append (flat_map code_bytes p.codes) (flat_map entry_bytes p.entries))

-- the first bytes of the output are the image
pub packed_front : (p : Parts) (out after : List ℕ) → after ≡ written out 0 (encode p) → take (image_size p) after ≡ encode p
packed_front p out after e =
    ap (take (image_size p)) e ∙ take_at (encode p) (drop (0 + length (encode p)) out) (image_size p) (length-encode p)
