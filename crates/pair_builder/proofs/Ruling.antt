-- The image over a choice keeps the rules of two-byte images, and is acceptable. Assumes nothing.
use Rattle.std.proofs.Common.{◌≡◌, ℕ, zero, suc, ◌-◌, ◌^◌, ◌<◌, ◌≤◌, Bool, true, false, cond, eqb, List, [], ◌∷◌, ◌++◌, map, length, Some, None, Option, sym, refl, ap, ◌∙◌, subst, arith, pow_pos}
use Rattle.std.specs.List.{range_with_len, AllByRecursion}
use Rattle.std.proofs.lemmas.List.FromFn.{length-map-range_with_len, get_or-map-range_with_len}
use Rattle.std.proofs.ByRecursion.{All-from_get_or, All-map, All-append}
use Rattle.ternary.specs.declared.entry.Entry.{Entry}
use Rattle.ternary.specs.declared.words.StateCode.{StateCode}
use Rattle.ternary.specs.declared.words.StateNo.{StateNo}
use Rattle.ternary.specs.Entries.{and_again}
use Rattle.automaton.specs.Limits.{Handed, Within, dfa}
use Rattle.automaton.specs.Runs.{Dfa}
use Rattle.prefix.specs.declared.word.PrefixWord.{PrefixWord}
use Rattle.forest.specs.Forest.{Forest, code, mask, here}
use Rattle.forest.specs.Deferment.{forest_of}
use Rattle.forest.specs.Table.{height}
use Rattle.forest.proofs.Deferred.{forest_stands}
use Rattle.builder.specs.Lists.{byte_word, entry_for, code_of}
use Rattle.builder.specs.Gathering.{lists_of}
use Rattle.builder.proofs.Canonical.{lists_below, next_below}
use Rattle.builder.proofs.Ruling.{shadows_of}
use Rattle.pairs.specs.declared.stride.Stride.{Stride}
use Rattle.pairs.specs.declared.stride.Stride.TheVariants.{One, Two}
use Rattle.pairs.specs.declared.pair.PairEntry.{PairEntry}
use Rattle.pairs.specs.Match.{Decision, first}
use Rattle.pairs.specs.Carries.{Carries, Right, RightStep, reached}
use Rattle.pair_image.specs.Format.{Parts, decode, raw_of}
use Rattle.pair_image.specs.Rules.{fault, parts_fault}
use Rattle.pair_image.proofs.Raws.{Kept}
use Rattle.pair_image.proofs.Ruled.{unfaulted}
use Rattle.pair_table.specs.Acceptance as pair_table
use Rattle.pair_builder.specs.Unrolled.{single, double, unrolled, Choice, closing_word, own, all_but_last, pair_block, pair_level, pair_levels}
use Rattle.pair_builder.specs.Unrolled as spec
use Rattle.pair_builder.specs.Choosing.{front_of, opens, choice_of}
use Rattle.pair_builder.specs.Build.{parts_over}
use Rattle.pair_builder.proofs.Closing.{front_below, choice_chosen}
use Rattle.pair_builder.proofs.Unrolling.{table_carries}

-- what a one-byte entry keeps
record Fits (limit : ℕ) (e : Entry) : Type 0 where
  code_small : e.code_value < limit
  mask_small : e.code_mask < limit
  next_small : e.next.0 < limit

entry_fits : (a : Dfa) (s : ℕ) (w : PrefixWord StateNo) → s < (forest_of a).states → w.next.0 < (forest_of a).states → Fits (2 ^ (forest_of a).width) (entry_for a s w)
entry_fits a s w hs hn =
    let f : Forest = forest_of a in
    let shadows = shadows_of a in
    let top : 0 < 2 ^ f.width = pow_pos f.width in
    let stars : 0 < 2 ^ (f.width - f.len s) = pow_pos (f.width - f.len s) in
    record {
      code_small = subst (λ (n : ℕ). n < 2 ^ f.width) (sym (shadows.met s s hs hs here)) (shadows.below s hs);
      mask_small = omega arith;
      next_small = shadows.below w.next.0 hn;
    }

single_kept : (limit : ℕ) (e : Entry) → Fits limit e → Kept limit (raw_of (single e))
single_kept limit e f = record { code_small = f.code_small; code-clear = e.code_clear; mask_small = f.mask_small; byte_clear = e.byte_clear; second_clear = refl; next_small = f.next_small; stride_ok = refl }

double_kept : (limit : ℕ) (d e : Entry) → Fits limit d → Fits limit e → Kept limit (raw_of (double d e))
double_kept limit d e f g = record { code_small = f.code_small; code-clear = d.code_clear; mask_small = f.mask_small; byte_clear = d.byte_clear; second_clear = e.byte_clear; next_small = g.next_small; stride_ok = refl }

module _ (limit : ℕ) where
  abbrev Ok : PairEntry → Type 0
  Ok e = Kept limit (raw_of e)

  singles_kept : (es : List Entry) → AllByRecursion (Fits limit) es → AllByRecursion Ok (map single es)
  singles_kept [] all = tt
  singles_kept (e ∷ es) all = (single_kept limit e all.0, singles_kept es all.1)

  doubles_kept : (d : Entry) → Fits limit d → (es : List Entry) → AllByRecursion (Fits limit) es → AllByRecursion Ok (map (double d) es)
  doubles_kept d f [] all = tt
  doubles_kept d f (e ∷ es) all = (double_kept limit d e f all.0, doubles_kept d f es all.1)

  but_last_fits : (es : List Entry) → AllByRecursion (Fits limit) es → AllByRecursion (Fits limit) (all_but_last es)
  but_last_fits [] all = tt
  but_last_fits (e ∷ []) all = tt
  but_last_fits (e ∷ f ∷ es) all = (all.0, but_last_fits (f ∷ es) all.1)

entries_fit : (a : Dfa) (s : ℕ) (ws : List (PrefixWord StateNo)) → s < (forest_of a).states → AllByRecursion (λ w. w.next.0 < (forest_of a).states) ws → AllByRecursion (Fits (2 ^ (forest_of a).width)) (map (entry_for a s) ws)
entries_fit a s [] hs p = tt
entries_fit a s (w ∷ ws) hs p = (entry_fits a s w hs p.0, entries_fit a s ws hs p.1)

module _ (a : Handed) (within : Within a) where
  d : Dfa
  d = dfa a

  abbrev limit_of : ℕ
  limit_of = 2 ^ (forest_of (dfa a)).width

  -- the words of the chosen lists lead to states
  choice_below : (s : ℕ) → s < a.states → AllByRecursion (λ w. w.next.0 < a.states) ((choice_of (dfa a)).lists s)
  choice_below s h = go (opens (dfa a) s)
    where
      go : (b : Bool) → AllByRecursion (λ w. w.next.0 < a.states) (cond b (front_of (dfa a) s ++ closing_word s ∷ []) (lists_of (dfa a) s))
      go true = All-append (λ (w : PrefixWord StateNo). w.next.0 < a.states) (front_of (dfa a) s) (closing_word s ∷ []) (front_below a within s) (h, tt)
      go false = lists_below a within s

  block_kept : (s : ℕ) → s < (forest_of (dfa a)).states → AllByRecursion (λ e. Kept (2 ^ (forest_of (dfa a)).width) (raw_of e)) (pair_block (dfa a) (choice_of (dfa a)) s)
  block_kept s h = go (opens (dfa a) s)
    where
      states : (forest_of (dfa a)).states ≡ a.states
      states = (forest_stands (dfa a)).states

      all : AllByRecursion (Fits (2 ^ (forest_of (dfa a)).width)) (own (dfa a) (choice_of (dfa a)) s)
      all = entries_fit (dfa a) s ((choice_of (dfa a)).lists s) h
          (subst (λ (n : ℕ). AllByRecursion (λ w. w.next.0 < n) ((choice_of (dfa a)).lists s)) (sym (forest_stands (dfa a)).states) (choice_below s (subst (λ n. s < n) (forest_stands (dfa a)).states h)))

      go : (b : Bool) → AllByRecursion (λ e. Kept (2 ^ (forest_of (dfa a)).width) (raw_of e))
          (cond b (map single (all_but_last (own (dfa a) (choice_of (dfa a)) s)) ++ unrolled (entry_for (dfa a) s (closing_word s)) (own (dfa a) (choice_of (dfa a)) s)) (map single (own (dfa a) (choice_of (dfa a)) s)))
      go true =
          All-append (λ e. Kept (2 ^ (forest_of (dfa a)).width) (raw_of e)) (map single (all_but_last (own (dfa a) (choice_of (dfa a)) s))) (unrolled (entry_for (dfa a) s (closing_word s)) (own (dfa a) (choice_of (dfa a)) s))
          (singles_kept (2 ^ (forest_of (dfa a)).width) (all_but_last (own (dfa a) (choice_of (dfa a)) s)) (but_last_fits (2 ^ (forest_of (dfa a)).width) (own (dfa a) (choice_of (dfa a)) s) all))
          (doubles_kept (2 ^ (forest_of (dfa a)).width) (entry_for (dfa a) s (closing_word s)) (entry_fits (dfa a) s (closing_word s) h h) (own (dfa a) (choice_of (dfa a)) s) all)
      go false = singles_kept (2 ^ (forest_of (dfa a)).width) (own (dfa a) (choice_of (dfa a)) s) all

  module _ (p : Choice) (each : (s : ℕ) → s < (forest_of (dfa a)).states → AllByRecursion (λ e. Kept (2 ^ (forest_of (dfa a)).width) (raw_of e)) (pair_block (dfa a) p s)) where
    abbrev Good : PairEntry → Type 0
    Good e = Kept (2 ^ (forest_of (dfa a)).width) (raw_of e)

    all_turn : (b : Bool) (s : ℕ) → s < (forest_of (dfa a)).states → AllByRecursion Good (cond b (pair_block (dfa a) p s) [])
    all_turn true s h = each s h
    all_turn false s h = tt

    all_level : (k n : ℕ) → n ≤ (forest_of (dfa a)).states → AllByRecursion Good (pair_level (dfa a) p k n)
    all_level k zero h = tt
    all_level k (suc n) h = All-append Good (pair_level (dfa a) p k n) _ (all_level k n (omega arith)) (all_turn (eqb ((forest_of (dfa a)).depth n) k) n (omega arith))

    all_levels : (k : ℕ) → AllByRecursion Good (pair_levels (dfa a) p k)
    all_levels zero = tt
    all_levels (suc k) = All-append Good (pair_level (dfa a) p k (forest_of (dfa a)).states) _ (all_level k (forest_of (dfa a)).states (omega arith)) (all_levels k)

  -- every code fits the width
  codes_below : AllByRecursion (λ c. c.0 < 2 ^ (forest_of (dfa a)).width) (map (code_of (dfa a)) (range_with_len 0 a.states))
  codes_below =
      All-from_get_or (λ (c : StateCode). c.0 < 2 ^ (forest_of (dfa a)).width) (map (code_of (dfa a)) (range_with_len 0 a.states)) (record { 0 = 0 })
      (λ s h.
      let below : s < a.states = subst (λ (n : ℕ). s < n) (length-map-range_with_len (code_of (dfa a)) 0 a.states) h in
      let inside : s < (forest_of (dfa a)).states = subst (λ (n : ℕ). s < n) (sym (forest_stands (dfa a)).states) below in
      subst (λ (c : StateCode). c.0 < 2 ^ (forest_of (dfa a)).width) (sym (get_or-map-range_with_len (code_of (dfa a)) 0 a.states s s (record { 0 = 0 }) below (omega arith))) ((shadows_of (dfa a)).below s inside))

  -- the image keeps the rules, if its entries are not too many
  pub keeps_rules : length (spec.pair_table (dfa a) (choice_of (dfa a))) ≤ 4096 → parts_fault (parts_over (dfa a) (choice_of (dfa a))) ≡ None
  keeps_rules few =
      let long = length-map-range_with_len (code_of (dfa a)) 0 a.states in
      unfaulted (parts_over (dfa a) (choice_of (dfa a))) (record {
        wide = (forest_stands (dfa a)).narrow (omega (arith, within.few));
        some = omega (arith, long, within.some);
        states = omega (arith, long, within.few);
        start = omega (arith, long, within.start_below);
        entries = few;
        code = codes_below;
        raw = All-map (Kept (2 ^ (forest_of (dfa a)).width)) raw_of (spec.pair_table (dfa a) (choice_of (dfa a))) (all_levels (choice_of (dfa a)) block_kept (height (forest_of (dfa a)) (forest_of (dfa a)).states));
      })

  -- the code of a state in the image
  code_at : (p : Choice) (s : ℕ) → s < a.states → pair_table.code_of (parts_over (dfa a) p) s ≡ code_of (dfa a) s
  code_at p s h = get_or-map-range_with_len (code_of (dfa a)) 0 a.states s s (record { 0 = 0 }) h (omega arith)

  reached_below : (s b c : ℕ) (stride : Stride) → reached (dfa a) s b c stride < a.states
  reached_below s b c One = next_below a within s b
  reached_below s b c Two = next_below a within ((dfa a).next s b) c

  same_step : (p : Choice) (s b c : ℕ) (o : Option Decision) → RightStep (dfa a) (code_of (dfa a)) s b c o → RightStep (dfa a) (pair_table.code_of (parts_over (dfa a) p)) s b c o
  same_step p s b c None right = right
  same_step p s b c (Some x) right = (right.0 ∙ sym (code_at p (reached (dfa a) s b c x.2) (reached_below s b c x.2)), right.1, right.2)

  carries : Carries (dfa a) (pair_table.code_of (parts_over (dfa a) (choice_of (dfa a)))) (spec.pair_table (dfa a) (choice_of (dfa a)))
  carries s hs b hb c hc =
      let p = choice_of (dfa a) in
      let right = table_carries (dfa a) p (choice_chosen (dfa a)) (λ t x h k. next_below a within t x) s hs b hb c hc in
      same_step p s b c (first (spec.pair_table (dfa a) p) (pair_table.code_of (parts_over (dfa a) p) s).0 b c)
      (subst (λ (k : StateCode). RightStep (dfa a) (code_of (dfa a)) s b c (first (spec.pair_table (dfa a) p) k.0 b c)) (sym (code_at p s hs)) right)

  -- bytes that say these parts are acceptable
  pub acceptable : (bytes : List ℕ) → fault bytes ≡ None → decode bytes ≡ parts_over (dfa a) (choice_of (dfa a)) → pair_table.Acceptable a bytes
  acceptable bytes sound says = record {
    within = within;
    sound = sound;
    agree = subst (λ (p : Parts). pair_table.Agree a p) (sym says) (length-map-range_with_len (code_of (dfa a)) 0 a.states, refl);
    carries = subst (λ (p : Parts). Carries (dfa a) (pair_table.code_of p) p.entries) (sym says) carries;
  }
