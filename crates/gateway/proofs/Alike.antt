-- Before a load nothing of a card shows but its capacity, so that two new gateways are told alike.
use Rattle.std.proofs.Common.{◌≡◌, ℕ, ◌≤◌, ◌⊎◌, inl, inr, List, [], ◌∷◌, map, length, None, is_some, sym, refl, ap, ◌∙◌, subst, arith}
use Rattle.std.proofs.lemmas.Bool.{false≢true}
use Rattle.ternary.specs.declared.words.Mark.{Mark}
use Rattle.automaton.specs.Limits.{Handed}
use Rattle.image.specs.Format.{decode}
use Rattle.table.specs.Acceptance.{code_of}
use Rattle.scanner.specs.Book.{LoadRefuses}
use Rattle.gateway.specs.Gateways.{Seen, IsLoaded, Asked, loading, opening, posting, turning, closing, Reply, refused, Loads, declines, loads, Opens, opens, Posts, occupied, posts, Closes, closes, Turns, unfit, outside, rests, serves, Step}
use Rattle.gateway.specs.Laws.{Event, Chain, ended, then}
use Rattle.gateway.proofs.Sole.{filled_with, loads_one, chain_one}

-- ---- before a load every other call is refused by 8, and changes nothing

module _ (s : Seen) (none : s.start ≡ None) where
  -- what a call is told, and what it leaves
  abbrev IsDeclined : Reply → Seen → Type 0
  IsDeclined r u = (r ≡ refused 8 []) × (u ≡ s)

  never : {P : Type 0} → IsLoaded s → P
  never loaded = absurd (false≢true (sym (ap is_some none) ∙ loaded))

  opens_none : (d : ℕ) {r : Reply} {u : Seen} → Opens d s r u → IsDeclined r u
  opens_none d (Opens.unloaded x) = (refl, refl)
  opens_none d (Opens.misnamed loaded bad) = never loaded
  opens_none d (opens some shut) = never (ap is_some some)

  posts_none : (d place waiting : ℕ) {r : Reply} {u : Seen} → Posts d place waiting s r u → IsDeclined r u
  posts_none d place waiting (Posts.unloaded x) = (refl, refl)
  posts_none d place waiting (Posts.misnamed loaded bad) = never loaded
  posts_none d place waiting (occupied loaded shown busy) = never loaded
  posts_none d place waiting (posts loaded shown free) = never loaded

  closes_none : (d : ℕ) {r : Reply} {u : Seen} → Closes d s r u → IsDeclined r u
  closes_none d (Closes.unloaded x) = (refl, refl)
  closes_none d (Closes.misnamed loaded bad) = never loaded
  closes_none d (closes loaded shown) = never loaded

  turns_none : (buffer : List ℕ) (quota : ℕ) (before : List Mark) {r : Reply} {after : List Mark} {u : Seen} → Turns buffer before quota s r after u → IsDeclined r u
  turns_none buffer quota before (Turns.unloaded x) = (refl, refl)
  turns_none buffer quota before (unfit loaded bad) = never loaded
  turns_none buffer quota before (outside loaded good comes out) = never loaded
  turns_none buffer quota before (rests loaded good idle_all) = never loaded
  turns_none buffer quota before (serves r loaded good comes within bytes walks) = never loaded

-- ---- two gateways that are not loaded, over cards of one capacity

-- they are not loaded, and their cards have one capacity
record NotLoaded (s t : Seen) : Type 0 where
  start : s.start ≡ None
  other : t.start ≡ None
  capacity : s.capacity ≡ t.capacity

-- the same reply; and what is left is the same, or both are still not loaded
abbrev ToldAlike : Reply → Seen → Reply → Seen → Type 0
ToldAlike r u q v = (r ≡ q) × ((u ≡ v) ⊎ NotLoaded u v)

module _ (s t : Seen) (not : NotLoaded s t) where
  -- both decline
  both_decline : {r q : Reply} {u v : Seen} → (r ≡ refused 8 []) × (u ≡ s) → (q ≡ refused 8 []) × (v ≡ t) → ToldAlike r u q v
  both_decline x y = (
    x.0 ∙ sym y.0,
    inr (record {
      start = ap (λ (m : Seen). m.start) x.1 ∙ not.start;
      other = ap (λ (m : Seen). m.start) y.1 ∙ not.other;
      capacity = ap (λ (m : Seen). m.capacity) x.1 ∙ not.capacity ∙ sym (ap (λ (m : Seen). m.capacity) y.1);
    }),
  )

  -- a load of the one, made of the other
  loads_over : (a : Handed) (image : List ℕ) {q : Reply} {v : Seen} → Loads a image t q v
      → (w : Seen) × Loads a image s q w × (((w ≡ s) × (v ≡ t)) ⊎ (w ≡ v))
  loads_over a image (declines {n = n} {vs = vs} why) =
      (s, declines (subst (λ c. LoadRefuses c a image n vs) (sym not.capacity) why), inl (refl, refl))
  loads_over a image (loads {sessions = xs} ok room all) =
      let fits : length (decode image).entries ≤ s.capacity = omega (arith, room, not.capacity) in (
        filled_with (decode image).entries s.capacity (code_of (decode image) a.start) xs,
        loads ok fits all,
        inr (ap (λ c. filled_with (decode image).entries c (code_of (decode image) a.start) xs) not.capacity),
      )

  loads_alike : (a : Handed) (image : List ℕ) {r q : Reply} {u v : Seen} → Loads a image s r u → Loads a image t q v → ToldAlike r u q v
  loads_alike a image x y =
      let over = loads_over a image y in
      let one = loads_one s a image x over.1 in (
        one.0,
        elim over.2 [
          | inl (ws, vt) ↦ (both_decline {r = refused 8 []} {q = refused 8 []} (refl, one.1 ∙ ws) (refl, vt)).1
          | inr e ↦ inl (one.1 ∙ e)
        ],
      )

  step_alike : (asked : Asked) (r q : Reply) (u v : Seen) → Step s asked r u → Step t asked q v → ToldAlike r u q v
  step_alike (loading a image) r q u v x y = loads_alike a image x y
  step_alike (opening d) r q u v x y = both_decline (opens_none s not.start d x) (opens_none t not.other d y)
  step_alike (posting d place waiting) r q u v x y = both_decline (posts_none s not.start d place waiting x) (posts_none t not.other d place waiting y)
  step_alike (turning buffer slots quota) r q u v x y = both_decline (turns_none s not.start buffer quota x.before x.turns) (turns_none t not.other buffer quota y.before y.turns)
  step_alike (closing d) r q u v x y = both_decline (closes_none s not.start d x) (closes_none t not.other d y)

chains_alike : {s t last later : Seen} {events others : List Event} → NotLoaded s t → Chain s events last → Chain t others later → map (λ (e : Event). e.0) events ≡ map (λ (e : Event). e.0) others → events ≡ others
chains_alike not ended ended asks = refl
chains_alike not ended (then step rest) asks = let z : ◌≡◌ {A = ℕ} 0 1 = cc in absurd (omega arith)
chains_alike not (then step rest) ended asks = let z : ◌≡◌ {A = ℕ} 0 1 = cc in absurd (omega arith)
chains_alike {s = s} {t = t} not (then {next = u} {asked = a} {reply = r} {events = es} step rest) (then {next = v} {last = later} {asked = b} {reply = q} {events = fs} again more) asks =
    let first : a ≡ b = cc in
    let others : map (λ (e : Event). e.0) es ≡ map (λ (e : Event). e.0) fs = cc in
    let one = step_alike s t not a r q u v step (subst (λ (x : Asked). Step t x q v) (sym first) again) in
    let tails : es ≡ fs = elim one.1 [
      | inl e ↦ (chain_one rest (subst (λ (m : Seen). Chain m fs later) (sym e) more) others).0
      | inr still ↦ chains_alike still rest more others
    ] in
    λ i. (first i, one.0 i) ∷ tails i

pub chain_alike : {s t last later : Seen} {events others : List Event} → s.start ≡ None → t.start ≡ None → s.capacity ≡ t.capacity
    → Chain s events last → Chain t others later → map (λ (e : Event). e.0) events ≡ map (λ (e : Event). e.0) others → events ≡ others
chain_alike start other capacity = chains_alike (record { start = start; other = other; capacity = capacity })
