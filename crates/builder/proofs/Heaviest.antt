-- The image over the chosen lists is made over a forest that joins a heaviest choice of pairs.
use Rattle.std.proofs.Common.{◌≡◌, ℕ, ◌<◌, true, eqb, List, [], ◌∷◌, map, All, sym, refl, subst}
use lib.Bits.{bit_and}
use Rattle.std.specs.List.{AllByRecursion}
use Rattle.std.proofs.lemmas.Bool.{and_from, eq-eqb}
use Rattle.std.proofs.lemmas.List.Elements.{All-from_recursion}
use Rattle.automaton.specs.Runs.{Dfa}
use Rattle.image.specs.Format.{Parts}
use Rattle.prefix.specs.declared.word.PrefixWord.{PrefixWord}
use Rattle.ternary.specs.declared.words.StateNo.{StateNo}
use Rattle.forest.specs.Forest.{code, mask, here}
use Rattle.forest.specs.Deferment.{forest_of}
use Rattle.forest.specs.Table.{block}
use Rattle.forest.proofs.Deferred.{forest_stands}
use Rattle.forest.proofs.Heaviest.{heaviest_forest}
use Rattle.builder.specs.Lists.{Lists, byte_word, entry_for, table_over, parts_over}
use Rattle.builder.specs.Build.{has_shadow, HasSomeShadow, HeaviestImage}
use Rattle.builder.proofs.Blocks.{all_table}
use Rattle.builder.proofs.Ruling.{shadows_of}

-- an entry of a state has the state's shadow
own_shadow : (a : Dfa) (s : ℕ) (w : PrefixWord StateNo) → s < (forest_of a).states → has_shadow (forest_of a) s (entry_for a s w) ≡ true
own_shadow a s w inside =
    let f = forest_of a in
    let value : bit_and (code f s) (mask f s) ≡ code f s = (shadows_of a).met s s inside inside here in
    and_from (eqb (bit_and (code f s) (mask f s)) (code f s)) (eqb (mask f s) (mask f s)) (eq-eqb _ _ value) (eq-eqb _ _ refl)

-- so have the words of a state
block_shadows : (a : Dfa) (s : ℕ) (ws : List (PrefixWord StateNo)) → s < a.states → s < (forest_of a).states → AllByRecursion (HasSomeShadow a) (block a (forest_of a) (λ _. map byte_word ws) s)
block_shadows a s [] hs inside = tt
block_shadows a s (w ∷ ws) hs inside = ((s, hs, own_shadow a s w inside), block_shadows a s ws hs inside)

-- so each entry of the table has the shadow of a state
table_shadows : (a : Dfa) (lists : Lists) → All (HasSomeShadow a) (table_over a lists)
table_shadows a lists =
    All-from_recursion (HasSomeShadow a) (table_over a lists)
    (all_table (HasSomeShadow a) a (forest_of a) (λ s. map byte_word (lists s))
    (λ s inside. block_shadows a s (lists s) (subst (λ (n : ℕ). s < n) (forest_stands a).states inside) inside))

pub heaviest_image : (a : Dfa) (lists : Lists) (parts : Parts) → parts ≡ parts_over a lists → HeaviestImage a parts
heaviest_image a lists parts says =
    subst (HeaviestImage a) (sym says)
    (λ fits. record { wide = refl; codes = refl; shadows = table_shadows a lists; joins = heaviest_forest a fits })
