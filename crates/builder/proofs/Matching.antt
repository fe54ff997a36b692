-- Prefix words as values and masks over the byte: the byte rule of a prefix list is that of its words. Assumes nothing.
use Rattle.std.proofs.Common.{◌≡◌, ℕ, ◌<◌, Bool, true, false, cond, T, eqb, List, [], ◌∷◌, map, Some, None, Option, sym, refl, ap, ◌∙◌, subst}
use lib.Bits.{bit_and}
use Rattle.std.specs.List.{AllByRecursion}
use Rattle.std.specs.Option.{option_map}
use Rattle.std.proofs.lemmas.Bool.{eqb-true}
use Rattle.ternary.specs.declared.words.StateNo.{StateNo}
use Rattle.automaton.specs.Runs.{Dfa}
use Rattle.prefix.specs.declared.word.PrefixWord.{PrefixWord}
use Rattle.prefix.specs.Masks.{byte_mask, byte_value}
use Rattle.prefix.specs.Words.{Formed, matches, first, Served}
use Rattle.prefix.proofs.Masking.{clear, compares}
use Rattle.forest.specs.Deferment.{forest_of}
use Rattle.forest.specs.Table as forest
use Rattle.forest.proofs.Deferred.{forest_stands}
use Rattle.builder.specs.Lists.{Lists, row, shared_with, deferrable, ShortestLists, byte_word}

-- a word matches the same bytes by its first bits and under its mask
same_match : (w : PrefixWord StateNo) (byte : ℕ) → Formed w → byte < 256 → eqb (bit_and byte (byte_mask w)) (bit_and (byte_value w) (byte_mask w)) ≡ matches w byte
same_match w byte f h =
    ap (λ (v : ℕ). eqb (bit_and byte (byte_mask w)) v) (clear w.bits w.value) ∙ compares w.bits w.value byte f.0 f.1 h

-- so the first word that matches is the same
same_first : (ws : List (PrefixWord StateNo)) (byte : ℕ) → AllByRecursion Formed ws → byte < 256 → forest.first_word (map byte_word ws) byte ≡ option_map (λ s. s.0) (first ws byte)
same_first [] byte f h = refl
same_first (w ∷ ws) byte f h =
    ap (λ (b : Bool). cond b (Some w.next.0) (forest.first_word (map byte_word ws) byte)) (same_match w byte f.0 h)
    ∙ go (matches w byte) (same_first ws byte f.1 h)
  where
    go : (b : Bool) → forest.first_word (map byte_word ws) byte ≡ option_map (λ s. s.0) (first ws byte) → cond b (Some w.next.0) (forest.first_word (map byte_word ws) byte) ≡ option_map (λ s. s.0) (cond b (Some w.next) (first ws byte))
    go true e = refl
    go false e = e

-- a shared byte is deferrable
deferred : (a : Dfa) (o : Option ℕ) (s byte : ℕ) → T (shared_with a o s byte) → forest.Deferrable a o s byte
deferred a None s byte t = t
deferred a (Some p) s byte t = eqb-true (a.next s byte) (a.next p byte) (told (eqb (a.next s byte) (a.next p byte)) t)
  where
    told : (b : Bool) → T b → b ≡ true
    told true u = refl
    told false u = absurd u

-- a byte that is served has its successor, or is deferred
gives : (a : Dfa) (s byte : ℕ) (o : Option StateNo) → Served (row a s byte) (deferrable a s byte) o → forest.Gives a (forest_of a) s byte (option_map (λ t. t.0) o)
gives a s byte None p = deferred a ((forest_of a).parent s) s byte p
gives a s byte (Some t) p = ap (λ (n : StateNo). n.0) p

-- lists that meet the byte rule make words that do
pub words_rule : (a : Dfa) (lists : Lists) → ShortestLists a lists → forest.ByteRule a (forest_of a) (λ s. map byte_word (lists s))
words_rule a lists short s byte hs hb =
    let below : s < a.states = subst (λ (n : ℕ). s < n) (forest_stands a).states hs in
    let one = short s below in
    subst (forest.Gives a (forest_of a) s byte) (sym (same_first (lists s) byte one.0 hb))
    (gives a s byte (first (lists s) byte) (one.1.meets byte hb))
