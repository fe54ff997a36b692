-- The image over the chosen lists keeps the rules of images, and carries its automaton. Assumes nothing.
use Rattle.std.proofs.Common.{◌≡◌, ℕ, ◌-◌, ◌^◌, ◌<◌, ◌≤◌, List, [], ◌∷◌, map, length, Some, None, filter, sym, refl, ap, ◌∙◌, subst, arith, pow_pos}
use Rattle.std.specs.List.{range_with_len, AllByRecursion}
use Rattle.std.proofs.lemmas.List.FromFn.{length-map-range_with_len, get_or-map-range_with_len}
use Rattle.std.proofs.ByRecursion.{All-from_get_or, All-map}
use Rattle.ternary.specs.declared.words.StateCode.{StateCode}
use Rattle.ternary.specs.declared.words.StateNo.{StateNo}
use Rattle.ternary.specs.Entries.{and_again}
use Rattle.ternary.specs.Match.{first}
use Rattle.automaton.specs.Limits.{Handed, Within, dfa}
use Rattle.automaton.specs.Runs.{Dfa}
use Rattle.image.specs.Format.{Parts, decode, raw_of}
use Rattle.image.specs.Rules.{fault, parts_fault}
use Rattle.image.proofs.Raws.{Kept}
use Rattle.image.proofs.Ruled.{unfaulted}
use Rattle.prefix.specs.declared.word.PrefixWord.{PrefixWord}
use Rattle.forest.specs.Forest.{Forest, code, mask, here}
use Rattle.forest.specs.Deferment.{forest_of}
use Rattle.forest.specs.Laws.{Shadows}
use Rattle.forest.specs.Table.{entry}
use Rattle.forest.proofs.Accept.{shadows_stand}
use Rattle.forest.proofs.Deferred.{forest_stands, automaton_stands}
use Rattle.table.specs.Acceptance as table
use Rattle.builder.specs.Lists.{Lists, ShortestLists, byte_word, entry_for, table_over, code_of, parts_over}
use Rattle.builder.specs.Build.{has_shadow, ShortestImage}
use Rattle.builder.specs.Gathering.{lists_of}
use Rattle.builder.proofs.Matching.{words_rule}
use Rattle.builder.proofs.Blocks.{kept_block, all_table, block_entries}
use Rattle.builder.proofs.Canonical.{lists_shortest, lists_below, next_below}

-- the shadows of the automaton's forest
pub shadows_of : (a : Dfa) → Shadows (forest_of a)
shadows_of a = shadows_stand (forest_of a) (forest_stands a).formed

-- an entry of a state that leads to a state keeps the rules of an image's entries
entry_kept : (a : Dfa) (s : ℕ) (w : PrefixWord StateNo) → s < (forest_of a).states → w.next.0 < (forest_of a).states → Kept (2 ^ (forest_of a).width) (raw_of (entry_for a s w))
entry_kept a s w hs hn =
    let f : Forest = forest_of a in
    let shadows = shadows_of a in
    let top : 0 < 2 ^ f.width = pow_pos f.width in
    let stars : 0 < 2 ^ (f.width - f.len s) = pow_pos (f.width - f.len s) in
    record {
      code_small = subst (λ (n : ℕ). n < 2 ^ f.width) (sym (shadows.met s s hs hs here)) (shadows.below s hs);
      code-clear = and_again (code f s) (mask f s);
      mask_small = omega arith;
      byte_clear = and_again (byte_word w).value (byte_word w).mask;
      next_small = shadows.below w.next.0 hn;
    }

block_kept : (a : Dfa) (s : ℕ) (ws : List (PrefixWord StateNo)) → s < (forest_of a).states → AllByRecursion (λ w. w.next.0 < (forest_of a).states) ws → AllByRecursion (λ e. Kept (2 ^ (forest_of a).width) (raw_of e)) (map (entry a (forest_of a) s) (map byte_word ws))
block_kept a s [] hs p = tt
block_kept a s (w ∷ ws) hs p = (entry_kept a s w hs p.0, block_kept a s ws hs p.1)

-- the code of a state in the image
code_at_lem : (a : Dfa) (lists : Lists) (s : ℕ) → s < a.states → table.code_of (parts_over a lists) s ≡ code_of a s
code_at_lem a lists s h = get_or-map-range_with_len (code_of a) 0 a.states s s (record { 0 = 0 }) h (omega arith)

-- every code fits the width
codes_below : (a : Dfa) → AllByRecursion (λ c. c.0 < 2 ^ (forest_of a).width) (map (code_of a) (range_with_len 0 a.states))
codes_below a =
    All-from_get_or (λ (c : StateCode). c.0 < 2 ^ (forest_of a).width) (map (code_of a) (range_with_len 0 a.states)) (record { 0 = 0 })
    (λ s h.
    let below : s < a.states = subst (λ (n : ℕ). s < n) (length-map-range_with_len (code_of a) 0 a.states) h in
    let inside : s < (forest_of a).states = subst (λ (n : ℕ). s < n) (sym (forest_stands a).states) below in
    subst (λ (c : StateCode). c.0 < 2 ^ (forest_of a).width) (sym (get_or-map-range_with_len (code_of a) 0 a.states s s (record { 0 = 0 }) below (omega arith))) ((shadows_of a).below s inside))

module _ (a : Handed) (within : Within a) where
  -- the image over the chosen lists keeps the rules, if its entries are not too many
  pub keeps_rules : length (table_over (dfa a) (lists_of (dfa a))) ≤ 4096 → parts_fault (parts_over (dfa a) (lists_of (dfa a))) ≡ None
  keeps_rules few =
      let d : Dfa = dfa a in
      let states = (forest_stands d).states in
      let long = length-map-range_with_len (code_of d) 0 d.states in
      unfaulted (parts_over d (lists_of d)) (record {
        wide = (forest_stands d).narrow (omega (arith, within.few));
        some = omega (arith, long, within.some);
        states = omega (arith, long, within.few);
        start = omega (arith, long, within.start_below);
        entries = few;
        code = codes_below d;
        raw = All-map (Kept (2 ^ (forest_of d).width)) raw_of (table_over d (lists_of d))
            (all_table (λ e. Kept (2 ^ (forest_of d).width) (raw_of e)) d (forest_of d) (λ s. map byte_word (lists_of d s))
            (λ s h. block_kept d s (lists_of d s) h (subst (λ (n : ℕ). AllByRecursion (λ w. w.next.0 < n) (lists_of d s)) (sym states) (lists_below a within s))));
      })

  -- its entries carry the automaton
  carries : table.Carries (dfa a) (table.code_of (parts_over (dfa a) (lists_of (dfa a)))) (table_over (dfa a) (lists_of (dfa a)))
  carries s h b k =
      let d : Dfa = dfa a in
      let lists : Lists = lists_of d in
      let inside : s < (forest_of d).states = subst (λ (n : ℕ). s < n) (sym (forest_stands d).states) h in
      let t : ℕ = d.next s b in
      ap (λ (c : StateCode). first (table_over d lists) c.0 b) (code_at_lem d lists s h)
      ∙ (automaton_stands d (λ u. map byte_word (lists u)) (words_rule d lists (lists_shortest d)) s b inside k
      ∙ ap (λ (c : StateCode). Some (c, d.class t)) (sym (code_at_lem d lists t (next_below a within s b))))

  -- bytes that say these parts are acceptable
  pub acceptable : (bytes : List ℕ) → fault bytes ≡ None → decode bytes ≡ parts_over (dfa a) (lists_of (dfa a)) → table.Acceptable a bytes
  acceptable bytes sound says = record {
    within = within;
    sound = sound;
    agree = subst (λ (p : Parts). table.Agree a p) (sym says) (length-map-range_with_len (code_of (dfa a)) 0 (dfa a).states, refl);
    carries = subst (λ (p : Parts). table.Carries (dfa a) (table.code_of p) p.entries) (sym says) carries;
  }

-- the entries behind each shadow are a shortest list
pub shortest_image : (a : Dfa) (lists : Lists) → ShortestLists a lists → (bytes : List ℕ) → decode bytes ≡ parts_over a lists → ShortestImage a bytes
shortest_image a lists short bytes says s h =
    let inside : s < (forest_of a).states = subst (λ (n : ℕ). s < n) (sym (forest_stands a).states) h in
    record {
      list = lists s;
      formed = (short s h).0;
      shortest = (short s h).1;
      behind =
          ap (λ (p : Parts). filter (has_shadow (forest_of a) s) p.entries) says
          ∙ (kept_block a (forest_of a) (shadows_of a) s inside (λ u. map byte_word (lists u)) ∙ block_entries a s (lists s));
    }
