-- What is found in an unpacked image is found in its bytes.
use Rattle.std.proofs.Common.{◌≡◌, ℕ, List, [], ◌∷◌, None, sym, ap, ◌∙◌, subst}
use Rattle.pairs.specs.declared.pair.PairEntry.{PairEntry}
use Rattle.ternary.specs.declared.words.StateCode.{StateCode}
use Rattle.automaton.specs.Limits.{Handed, Within, dfa}
use Rattle.pair_image.specs.declared.reader.Image.{Image}
use Rattle.pair_image.specs.declared.reader.Header.{Header}
use Rattle.pair_image.specs.Calls.{Accepted, header_of, held, parts_of}
use Rattle.pair_image.specs.Format.{Parts}
use Rattle.pair_image.specs.Rules.{fault}
use Rattle.pair_table.specs.Acceptance.{Acceptable, Agree, FirstWrong, Refuses, differs, wrong}
use Rattle.pair_table.specs.Steps.{listed}
use Rattle.pairs.specs.Carries.{Carries}

-- a header agrees with an automaton as its parts do
pub agreed : (a : Handed) (p : Parts) (h : Header) → h ≡ header_of p → (h.states ≡ a.states) × (h.start.0 ≡ a.start) → Agree a p
agreed a p h is same = (ap (λ (x : Header). x.states) (sym is) ∙ same.0, ap (λ (x : Header). x.start.0) (sym is) ∙ same.1)

pub disagree : (a : Handed) (p : Parts) (h : Header) → h ≡ header_of p → ((h.states ≡ a.states) × (h.start.0 ≡ a.start) → ⊥) → Agree a p → ⊥
disagree a p h is differ agree = differ (ap (λ (x : Header). x.states) is ∙ agree.0, ap (λ (x : Header). x.start.0) is ∙ agree.1)

module _ (a : Handed) (bytes : List ℕ) (image : Image) (within : Within a) (ok : Accepted bytes image) where
  -- the bytes that the image holds have no fault either
  held_sound : fault (held image) ≡ None
  held_sound = ap fault ok.holds ∙ ok.sound

  -- the number of states or the start state differs
  pub found_different : (Agree a (parts_of image) → ⊥) → Refuses a bytes 11 []
  found_different non = subst (λ bs. Refuses a bs 11 []) ok.holds (differs within held_sound non)

  module _ (codes : List StateCode) (es : List PairEntry) (same_codes : codes ≡ (parts_of image).codes) (same_entries : es ≡ (parts_of image).entries) (agree : Agree a (parts_of image)) where
    -- the entries carry the automaton
    pub found_right : Carries (dfa a) (listed codes) es → Acceptable a bytes
    found_right carries =
        subst (Acceptable a) ok.holds (record {
          within = within;
          sound = held_sound;
          agree = agree;
          carries = subst (λ (xs : List PairEntry). Carries (dfa a) (listed (parts_of image).codes) xs) same_entries (subst (λ (cs : List StateCode). Carries (dfa a) (listed cs) es) same_codes carries);
        })

    -- or there is a lowest state and byte at which they do not
    pub found_wrong : (s b c : ℕ) → FirstWrong (dfa a) (listed codes) es s b c → Refuses a bytes 12 (s ∷ b ∷ c ∷ [])
    found_wrong s b c place =
        subst (λ bs. Refuses a bs 12 (s ∷ b ∷ c ∷ [])) ok.holds
        (wrong s b c within held_sound agree
        (subst (λ (xs : List PairEntry). FirstWrong (dfa a) (listed (parts_of image).codes) xs s b c) same_entries
        (subst (λ (cs : List StateCode). FirstWrong (dfa a) (listed cs) es s b c) same_codes place)))
