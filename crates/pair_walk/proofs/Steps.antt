-- The steps of a walk over two cards, taken together.
use Rattle.std.proofs.Common.{◌≡◌, ℕ, zero, suc, ◌+◌, ◌-◌, ◌*◌, ◌<◌, ◌≤◌, Bool, true, false, cond, ◌||◌, eqb, ltb, List, [], ◌∷◌, ◌++◌, map, length, take, drop, set, IfErr, inl, inr, Some, None, Ok, Err, Option, Result, sym, refl, ap, ◌∙◌, subst, arith, length-append, add-zero, get_or}
use Rattle.std.proofs.lemmas.List.{append-nil, append_assoc, take_at, take_all, drop_at, drop-drop, length-take-le, length-drop, length-map, take-append-drop, map-append}
use Rattle.std.proofs.lemmas.Bool.{ne_eqb, lt-ltb, le-ltb, cases_lt}
use Rattle.fields.proofs.Writes.{set-written}
use Rattle.ternary.specs.declared.entry.Entry.{Entry}
use Rattle.ternary.specs.declared.refusal.Refusal.{Refusal}
use Rattle.ternary.specs.declared.refusal.Refusal.TheVariants.{NoEntry, PieceTooLong}
use Rattle.ternary.specs.declared.words.Mark.{Mark}
use Rattle.ternary.specs.declared.words.Progress.{Progress}
use Rattle.ternary.specs.declared.words.StateCode.{StateCode}
use Rattle.ternary.specs.Marks.{Marked, marked, held, mark}
use Rattle.ternary.specs.Match as one
use Rattle.pairs.specs.declared.stride.Stride.{Stride}
use Rattle.pairs.specs.declared.stride.Stride.TheVariants.{One, Two}
use Rattle.pairs.specs.declared.pair.PairEntry.{PairEntry}
use Rattle.pairs.specs.Strides.{bytes}
use Rattle.pairs.specs.Match.{Decision, first}
use Rattle.scanner.specs.Walks.{longest}
use Rattle.scanner.proofs.Simulation.{Bytes}
use Rattle.pair_walk.specs.declared.walk.Way.{Way}
use Rattle.pair_walk.specs.Ways.{Why, ended, full, lacking, Ending, stopped, after, fits, slots_after, by_stride, last, alone, going, onward, walked}
use Rattle.pair_walk.specs.Walks.{is_full, progress, told, with_marks, over, answer, leaves, AsOneByte, Declines, Serves}
use Rattle.pair_walk.proofs.Law.{fitting, served}
use Rattle.pair_walk.specs.Steps.{put_marks, on_to, told_on}

-- a mark that is written in the next slot
pub put_is : (marks : List Mark) (w place class : ℕ) → (class ≡ 0 → ⊥) → w < length marks
    → set marks w (record { place = place; class = class }) ≡ cond (fits (length marks - w) class) (put_marks marks w (mark place class)) marks
put_is marks w place class nz room =
    let fit : fits (length marks - w) class ≡ true = ap (λ t. t || ltb 0 (length marks - w)) (ne_eqb class 0 nz) ∙ lt-ltb 0 (length marks - w) (omega arith) in
    let is : mark place class ≡ (place, class) ∷ [] = ap (λ t. cond t [] ((place, class) ∷ [])) (ne_eqb class 0 nz) in
    set-written marks w (record { place = place; class = class }) room
    ∙ ap (put_marks marks w) (sym is)
    ∙ ap (λ t. cond t (put_marks marks w (mark place class)) marks) (sym fit)

-- what a walk has made of a buffer: marks in front, and beyond them what it had
pub held-marked : (xs : List Mark) → map held (map marked xs) ≡ xs
held-marked [] = refl
held-marked (x ∷ xs) = ap (λ (l : List Mark). x ∷ l) (held-marked xs)

pub marked-held : (ms : List Marked) → map marked (map held ms) ≡ ms
marked-held [] = refl
marked-held ((place, class) ∷ ms) = ap (λ (l : List Marked). (place, class) ∷ l) (marked-held ms)

-- ---- marks that are written behind others

module _ (now : List Mark) (w : ℕ) (room : w ≤ length now) (m : List Marked) where
  put_front : length (take w now ++ map held m) ≡ w + length m
  put_front = length-append (take w now) (map held m) ∙ (λ i. length-take-le w now room i + length-map m held i)

  put_cut : put_marks now w m ≡ (take w now ++ map held m) ++ drop (w + length m) now
  put_cut = sym (append_assoc (take w now) (map held m) (drop (w + length m) now))

  -- the marks are those before and these
  pub put_taken : map marked (take (w + length m) (put_marks now w m)) ≡ map marked (take w now) ++ m
  put_taken =
      ap (λ (l : List Mark). map marked (take (w + length m) l)) put_cut
      ∙ ap (map marked) (take_at (take w now ++ map held m) (drop (w + length m) now) (w + length m) put_front)
      ∙ map-append marked (take w now) (map held m)
      ∙ ap (λ (l : List Marked). map marked (take w now) ++ l) (marked-held m)

  -- beyond them nothing has changed
  pub put_beyond : drop (w + length m) (put_marks now w m) ≡ drop (w + length m) now
  put_beyond =
      ap (drop (w + length m)) put_cut ∙ drop_at (take w now ++ map held m) (drop (w + length m) now) (w + length m) put_front

  -- and the buffer is as long
  pub put_long : w + length m ≤ length now → length (put_marks now w m) ≡ length now
  put_long fit =
      let l = length-append (take w now ++ map held m) (drop (w + length m) now) in
      let d = length-drop (w + length m) now in
      ap length put_cut ∙ l ∙ (let f = put_front in omega (arith, f, d))

-- writing no mark changes nothing
pub put_none : (now : List Mark) (w : ℕ) → put_marks now w [] ≡ now
put_none now w = ap (λ k. take w now ++ drop k now) (add-zero w) ∙ take-append-drop w now

-- ---- what the loop keeps

-- the way so far and the walk over the rest are the walk over the piece; the buffer has the marks so far in front
pub record Here (es : List Entry) (ds : List PairEntry) (from : StateCode) (piece : List ℕ) (buffer now : List Mark) (way : Way) (rest : List ℕ) : Type 0 where
  pub so : after way.taken (map marked (take way.written now)) way.searches (walked es ds (length buffer - way.written) way.taken way.code rest) ≡ over es ds from piece (length buffer)
  pub room : way.written ≤ length now
  pub beyond : drop way.written now ≡ drop way.written buffer
  pub left : way.taken + length rest ≡ length piece
  pub few : way.searches ≤ way.taken
  pub long : length now ≡ length buffer

-- at the start
pub here_first : (es : List Entry) (ds : List PairEntry) (from : StateCode) (piece : List ℕ) (buffer : List Mark) → Here es ds from piece buffer buffer (record { taken = 0; written = 0; code = from; searches = 0 }) piece
here_first es ds from piece buffer = record {
  so = let e = over es ds from piece (length buffer) in let t : 0 + e.taken ≡ e.taken = omega arith in let k : 0 + e.searches ≡ e.searches = omega arith in
      let all : length buffer - 0 ≡ length buffer = omega arith in
      ap (λ n. after 0 [] 0 (walked es ds n 0 from piece)) all ∙ (λ i. record { taken = t i; ms = e.ms; code = e.code; searches = k i; why = e.why });
  room = omega arith;
  beyond = refl;
  left = omega arith;
  few = omega arith;
  long = refl;
}

-- two stretches of a walk are one
after-after : (t k n : ℕ) (ms m : List Marked) (e : Ending) → after t ms k (after n m 1 e) ≡ after (t + n) (ms ++ m) (k + 1) e
after-after t k n ms m e =
    let p : t + (n + e.taken) ≡ t + n + e.taken = omega arith in
    let r : k + (1 + e.searches) ≡ k + 1 + e.searches = omega arith in
    let q : ms ++ (m ++ e.ms) ≡ (ms ++ m) ++ e.ms = sym (append_assoc ms m e.ms) in
    λ i. record { taken = p i; ms = q i; code = e.code; searches = r i; why = e.why }

-- what follows a decision whose mark fits
follows : (es : List Entry) (ds : List PairEntry) (slots place : ℕ) (code next : StateCode) (class b c : ℕ) (more : List ℕ) (stride : Stride) → first ds code.0 b c ≡ Some (next, class, stride) → fits slots class ≡ true
    → walked es ds slots place code (b ∷ c ∷ more)
    ≡ after (bytes stride) (mark (place + bytes stride - 1) class) 1 (walked es ds (slots_after slots (mark (place + bytes stride - 1) class)) (place + bytes stride) next (drop (bytes stride) (b ∷ c ∷ more)))
follows es ds slots place code next class b c more One hit ok =
    let at : place + 1 - 1 ≡ place = omega arith in
    ap (onward slots place code (one.first es code.0 b) (λ n left. walked es ds left (place + 1) n (c ∷ more)) (λ n left. walked es ds left (place + 2) n more)) hit
    ∙ ap (λ t. cond t (after 1 (mark place class) 1 (walked es ds (slots_after slots (mark place class)) (place + 1) next (c ∷ more))) (stopped code 1 full)) ok
    ∙ ap (λ p. after 1 (mark p class) 1 (walked es ds (slots_after slots (mark p class)) (place + 1) next (c ∷ more))) (sym at)
follows es ds slots place code next class b c more Two hit ok =
    let at : place + 2 - 1 ≡ place + 1 = omega arith in
    ap (onward slots place code (one.first es code.0 b) (λ n left. walked es ds left (place + 1) n (c ∷ more)) (λ n left. walked es ds left (place + 2) n more)) hit
    ∙ ap (λ t. cond t (after 2 (mark (place + 1) class) 1 (walked es ds (slots_after slots (mark (place + 1) class)) (place + 2) next more)) (alone code (one.first es code.0 b))) ok
    ∙ ap (λ p. after 2 (mark p class) 1 (walked es ds (slots_after slots (mark p class)) (place + 2) next more)) (sym at)

bytes_few : (stride : Stride) → (1 ≤ bytes stride) × (bytes stride ≤ 2)
bytes_few One = (omega arith, omega arith)
bytes_few Two = (omega arith, omega arith)

module _ (es : List Entry) (ds : List PairEntry) (from : StateCode) (piece : List ℕ) (buffer now : List Mark) (way : Way) (rest : List ℕ) (here : Here es ds from piece buffer now way rest) where
  -- a decision whose mark fits
  pub here_more : (b c : ℕ) (more : List ℕ) (next : StateCode) (class : ℕ) (stride : Stride) → rest ≡ b ∷ c ∷ more → Some (next, class, stride) ≡ first ds way.code.0 b c → fits (length now - way.written) class ≡ true
      → Here es ds from piece buffer (put_marks now way.written (mark (way.taken + bytes stride - 1) class))
      (record { taken = way.taken + bytes stride; written = way.written + length (mark (way.taken + bytes stride - 1) class); code = next; searches = way.searches + 1 }) (drop (bytes stride) rest)
  here_more b c more next class stride is hit ok =
      let m = mark (way.taken + bytes stride - 1) class in
      let slots = length buffer - way.written in
      let same : length now - way.written ≡ slots = ap (λ k. k - way.written) here.long in
      let fit : length m ≤ slots = fitting slots (way.taken + bytes stride - 1) class (ap (λ k. fits k class) (sym same) ∙ ok) in
      let few = bytes_few stride in
      let room : way.written + length m ≤ length now = (let r = here.room in let l = here.long in omega arith) in
      let slots_on : slots_after slots m ≡ length buffer - (way.written + length m) = omega arith in
      let step = ap (walked es ds slots way.taken way.code) is
      ∙ follows es ds slots way.taken way.code next class b c more stride (sym hit) (ap (λ k. fits k class) (sym same) ∙ ok)
      ∙ (λ i. after (bytes stride) m 1 (walked es ds (slots_on i) (way.taken + bytes stride) next (drop (bytes stride) (sym is i)))) in
      record {
        so =
            (λ i. after (way.taken + bytes stride) (put_taken now way.written here.room m i) (way.searches + 1) (walked es ds (length buffer - (way.written + length m)) (way.taken + bytes stride) next (drop (bytes stride) rest)))
            ∙ sym (after-after way.taken way.searches (bytes stride) (map marked (take way.written now)) m (walked es ds (length buffer - (way.written + length m)) (way.taken + bytes stride) next (drop (bytes stride) rest)))
            ∙ ap (after way.taken (map marked (take way.written now)) way.searches) (sym step)
            ∙ here.so;
        room = let l = put_long now way.written here.room m room in omega arith;
        beyond = put_beyond now way.written here.room m ∙ sym (drop-drop (length m) way.written now) ∙ ap (drop (length m)) here.beyond ∙ drop-drop (length m) way.written buffer;
        left = let l = length-drop (bytes stride) rest in let n = ap length is in let h = here.left in omega (arith, l, n, h, few.0, few.1);
        few = let h = here.few in omega (arith, h, few.0);
        long = put_long now way.written here.room m room ∙ here.long;
      }

  -- what the walk over the rest ends with
  abbrev rest_ending : Ending
  rest_ending = walked es ds (length buffer - way.written) way.taken way.code rest

  marks_so_far : length (map marked (take way.written now)) ≡ way.written
  marks_so_far = length-map (take way.written now) marked ∙ length-take-le way.written now here.room

  progress_is : on_to way rest_ending ≡ progress (over es ds from piece (length buffer))
  progress_is =
      let n : way.written + length rest_ending.ms ≡ length (map marked (take way.written now) ++ rest_ending.ms) =
      sym (length-append (map marked (take way.written now)) rest_ending.ms ∙ ap (λ k. k + length rest_ending.ms) marks_so_far) in
      (λ i. record { taken = way.taken + rest_ending.taken; marks = n i; code = rest_ending.code; marks_full = is_full rest_ending.why; searches = way.searches + rest_ending.searches })
      ∙ ap progress here.so

  -- the answer
  pub here_told : (r : Result Progress Refusal) → length piece ≤ longest → r ≡ told_on way rest_ending → r ≡ answer es ds from piece (length buffer)
  here_told r short is =
      let none : ltb longest (length piece) ≡ false = le-ltb longest (length piece) short in
      is
      ∙ ap (told rest_ending.why) progress_is
      ∙ ap (λ (x : Ending). told x.why (progress (over es ds from piece (length buffer)))) here.so
      ∙ ap (λ t. cond t (Err PieceTooLong) (told (over es ds from piece (length buffer)).why (progress (over es ds from piece (length buffer))))) (sym none)

  -- the buffer
  pub here_left : (later : List Mark) → length piece ≤ longest → later ≡ put_marks now way.written rest_ending.ms → later ≡ leaves es ds from piece buffer
  here_left later short is =
      let none : ltb longest (length piece) ≡ false = le-ltb longest (length piece) short in
      let ms = rest_ending.ms in
      let front = map marked (take way.written now) in
      let count : way.written + length ms ≡ length (front ++ ms) = sym (length-append front ms ∙ ap (λ k. k + length ms) marks_so_far) in
      let beyond : drop (way.written + length ms) now ≡ drop (way.written + length ms) buffer = sym (drop-drop (length ms) way.written now) ∙ ap (drop (length ms)) here.beyond ∙ drop-drop (length ms) way.written buffer in
      is
      ∙ sym (append_assoc (take way.written now) (map held ms) (drop (way.written + length ms) now))
      ∙ ap (λ (l : List Mark). (l ++ map held ms) ++ drop (way.written + length ms) now) (sym (held-marked (take way.written now)))
      ∙ ap (λ (l : List Mark). l ++ drop (way.written + length ms) now) (sym (map-append held front ms))
      ∙ ap (λ (l : List Mark). map held (front ++ ms) ++ l) (beyond ∙ ap (λ k. drop k buffer) count)
      ∙ ap (λ (x : Ending). with_marks x.ms buffer) here.so
      ∙ ap (λ t. cond t buffer (with_marks (over es ds from piece (length buffer)).ms buffer)) (sym none)

-- a walk that stops where it is
pub stop_told : (way : Way) (k : ℕ) (why : Why) → told_on way (stopped way.code k why) ≡ told why (record { taken = way.taken; marks = way.written; code = way.code; marks_full = is_full why; searches = way.searches + k })
stop_told way k why =
    let t = add-zero way.taken in let w = add-zero way.written in
    λ i. told why (record { taken = t i; marks = w i; code = way.code; marks_full = is_full why; searches = way.searches + k })

-- a walk is refused by 9 or by 7 alone
by_seven : (e : Ending) (piece : List ℕ) (buffer later : List Mark) → length piece ≤ longest → (w : Why) → e.why ≡ w → IfErr (told w (progress e)) (Declines e piece buffer later)
by_seven e piece buffer later short ended is = tt
by_seven e piece buffer later short full is = tt
by_seven e piece buffer later short lacking is = inr ((refl, refl), short, is)

refused_of : (es : List Entry) (ds : List PairEntry) (from : StateCode) (piece : List ℕ) (buffer later : List Mark) (r : Result Progress Refusal)
    → r ≡ answer es ds from piece (length buffer) → later ≡ leaves es ds from piece buffer → IfErr r (Declines (over es ds from piece (length buffer)) piece buffer later)
refused_of es ds from piece buffer later r is left =
    let e = over es ds from piece (length buffer) in
    elim (cases_lt longest (length piece)) [
      | inl long ↦
          let yes : ltb longest (length piece) ≡ true = lt-ltb longest (length piece) long in
          subst (λ (x : Result Progress Refusal). IfErr x (Declines e piece buffer later)) (sym (is ∙ ap (λ t. cond t (Err PieceTooLong) (told e.why (progress e))) yes))
          (inl ((refl, refl), long, left ∙ ap (λ t. cond t buffer (with_marks e.ms buffer)) yes))
      | inr short ↦
          let none : ltb longest (length piece) ≡ false = le-ltb longest (length piece) short in
          subst (λ (x : Result Progress Refusal). IfErr x (Declines e piece buffer later)) (sym (is ∙ ap (λ t. cond t (Err PieceTooLong) (told e.why (progress e))) none))
          (by_seven e piece buffer later short e.why refl)
    ]

-- what a walk answers and leaves, and that it is the walk of one byte a search where both lists carry an automaton
pub record End (es : List Entry) (ds : List PairEntry) (from : StateCode) (piece : List ℕ) (buffer later : List Mark) (r : Result Progress Refusal) : Type 0 where
  pub answer : r ≡ answer es ds from piece (length buffer)
  pub marks : later ≡ leaves es ds from piece buffer
  pub refused : IfErr r (Declines (over es ds from piece (length buffer)) piece buffer later)
  pub same : Serves es ds from → AsOneByte es from piece buffer later r

pub end_of : (es : List Entry) (ds : List PairEntry) (from : StateCode) (piece : List ℕ) (buffer later : List Mark) (r : Result Progress Refusal) → Bytes piece
    → r ≡ answer es ds from piece (length buffer) → later ≡ leaves es ds from piece buffer → End es ds from piece buffer later r
end_of es ds from piece buffer later r all told left = record {
  answer = told;
  marks = left;
  refused = refused_of es ds from piece buffer later r told left;
  same = λ v. subst (λ (l : List Mark). AsOneByte es from piece buffer l r) (sym left)
      (subst (AsOneByte es from piece buffer (leaves es ds from piece buffer)) (sym told) (served es ds from piece buffer all v));
}

-- a piece that is too long
pub end_long : (es : List Entry) (ds : List PairEntry) (from : StateCode) (piece : List ℕ) (buffer : List Mark) → Bytes piece → longest < length piece → End es ds from piece buffer buffer (Err PieceTooLong)
end_long es ds from piece buffer all long =
    let yes : ltb longest (length piece) ≡ true = lt-ltb longest (length piece) long in
    let e = over es ds from piece (length buffer) in
    end_of es ds from piece buffer buffer (Err PieceTooLong) all
    (ap (λ t. cond t (Err PieceTooLong) (told e.why (progress e))) (sym yes))
    (ap (λ t. cond t buffer (with_marks e.ms buffer)) (sym yes))

-- ---- where a walk ends

-- two bytes or more
pub two_front : (rest : List ℕ) → 2 ≤ length rest → rest ≡ get_or rest 0 0 ∷ get_or rest 1 0 ∷ drop 2 rest
two_front [] h = absurd (omega arith)
two_front (b ∷ []) h = absurd (omega arith)
two_front (b ∷ c ∷ more) h = refl

-- a single byte
pub one_front : (rest : List ℕ) → 1 ≤ length rest → length rest < 2 → rest ≡ get_or rest 0 0 ∷ []
one_front [] h k = absurd (omega arith)
one_front (b ∷ []) h k = refl
one_front (b ∷ c ∷ more) h k = absurd (omega arith)

-- no byte
pub no_front : (rest : List ℕ) → length rest < 1 → rest ≡ []
no_front [] h = refl
no_front (b ∷ more) h = absurd (omega arith)

-- a slice that leaves some bytes out in front
pub sliced : (n : ℕ) (rest : List ℕ) → take (length rest - n) (drop n rest) ≡ drop n rest
sliced n rest = take_all (length rest - n) (drop n rest) (let l = length-drop n rest in omega arith)

-- what is told of a mark that was to be written
pub written_fits : (b : Bool) (w x : ℕ) → ◌≡◌ {A = Option ℕ} (Some w) (cond b (Some x) None) → (b ≡ true) × (w ≡ x)
written_fits true w x e = (refl, ap (λ (o : Option ℕ). elim o as (λ _. ℕ) [ None ↦ w | Some n ↦ n ]) e)
written_fits false w x e = absurd (let z : ◌≡◌ {A = ℕ} 0 1 = cc in omega arith)

pub unwritten : (b : Bool) (x : ℕ) → ◌≡◌ {A = Option ℕ} None (cond b (Some x) None) → b ≡ false
unwritten true x e = absurd (let z : ◌≡◌ {A = ℕ} 0 1 = cc in omega arith)
unwritten false x e = refl

-- the first of two bytes alone gives no mark
pub alone_unmarked : (code : StateCode) (o : Option one.Decision) → (alone code o).ms ≡ []
alone_unmarked code None = refl
alone_unmarked code (Some d) = elim (eqb d.1 0) as (λ t. (cond t (after 1 [] 2 (stopped d.0 0 full)) (stopped code 2 full)).ms ≡ []) [ true ↦ refl | false ↦ refl ]

pub no_slot_unmarked : (code : StateCode) (o : Option one.Decision) (stride : Stride) → (by_stride stride (stopped code 1 full) (alone code o)).ms ≡ []
no_slot_unmarked code o One = refl
no_slot_unmarked code o Two = alone_unmarked code o

-- a decision whose mark has no slot
pub no_slot_follows : (es : List Entry) (ds : List PairEntry) (slots place : ℕ) (code next : StateCode) (class b c : ℕ) (more : List ℕ) (stride : Stride) → first ds code.0 b c ≡ Some (next, class, stride) → fits slots class ≡ false
    → walked es ds slots place code (b ∷ c ∷ more) ≡ by_stride stride (stopped code 1 full) (alone code (one.first es code.0 b))
no_slot_follows es ds slots place code next class b c more stride hit none =
    ap (onward slots place code (one.first es code.0 b) (λ n left. walked es ds left (place + 1) n (c ∷ more)) (λ n left. walked es ds left (place + 2) n more)) hit
    ∙ ap (λ t. cond t
    (by_stride stride
    (after 1 (mark place class) 1 (walked es ds (slots_after slots (mark place class)) (place + 1) next (c ∷ more)))
    (after 2 (mark (place + 1) class) 1 (walked es ds (slots_after slots (mark (place + 1) class)) (place + 2) next more)))
    (by_stride stride (stopped code 1 full) (alone code (one.first es code.0 b)))) none

module _ (es : List Entry) (ds : List PairEntry) (from : StateCode) (piece : List ℕ) (buffer now : List Mark) (way : Way) (rest : List ℕ) (here : Here es ds from piece buffer now way rest) (short : length piece ≤ longest) (all : Bytes piece) where
  -- with the ending of the walk over the rest
  pub end_on : (e : Ending) (later : List Mark) (r : Result Progress Refusal) → walked es ds (length buffer - way.written) way.taken way.code rest ≡ e → r ≡ told_on way e → later ≡ put_marks now way.written e.ms → End es ds from piece buffer later r
  end_on e later r is told left =
      end_of es ds from piece buffer later r all
      (here_told es ds from piece buffer now way rest here r short (told ∙ ap (told_on way) (sym is)))
      (here_left es ds from piece buffer now way rest here later short (left ∙ ap (λ (x : Ending). put_marks now way.written x.ms) (sym is)))

  -- where no byte more is taken
  pub end_here : (e : Ending) (r : Result Progress Refusal) → walked es ds (length buffer - way.written) way.taken way.code rest ≡ e → r ≡ told_on way e → e.ms ≡ [] → End es ds from piece buffer now r
  end_here e r is told none = end_on e now r is told (sym (ap (put_marks now way.written) none ∙ put_none now way.written))

  -- a search on the two-byte card finds nothing
  pub end_lacking : (p : Progress) → 2 ≤ length rest → None ≡ first ds way.code.0 (get_or rest 0 0) (get_or rest 1 0) → p ≡ record { taken = way.taken; marks = way.written; code = way.code; marks_full = false; searches = way.searches + 1 }
      → End es ds from piece buffer now (Err (NoEntry p))
  end_lacking p long miss is =
      let slots = length buffer - way.written in
      let to : walked es ds slots way.taken way.code rest ≡ stopped way.code 1 lacking =
      ap (walked es ds slots way.taken way.code) (two_front rest long)
      ∙ ap (onward slots way.taken way.code (one.first es way.code.0 (get_or rest 0 0)) (λ n left. walked es ds left (way.taken + 1) n (get_or rest 1 0 ∷ drop 2 rest)) (λ n left. walked es ds left (way.taken + 2) n (drop 2 rest))) (sym miss) in
      end_here (stopped way.code 1 lacking) (Err (NoEntry p)) to (ap (λ (q : Progress). Err (NoEntry q)) is ∙ sym (stop_told way 1 lacking)) refl

  -- a mark has no slot
  pub end_full : (next : StateCode) (class : ℕ) (stride : Stride) (r : Result Progress Refusal) → 2 ≤ length rest → Some (next, class, stride) ≡ first ds way.code.0 (get_or rest 0 0) (get_or rest 1 0) → fits (length now - way.written) class ≡ false
      → r ≡ told_on way (by_stride stride (stopped way.code 1 full) (alone way.code (one.first es way.code.0 (get_or rest 0 0)))) → End es ds from piece buffer now r
  end_full next class stride r long hit none told =
      let slots = length buffer - way.written in
      let same : length now - way.written ≡ slots = ap (λ k. k - way.written) here.long in
      let e = by_stride stride (stopped way.code 1 full) (alone way.code (one.first es way.code.0 (get_or rest 0 0))) in
      let to = ap (walked es ds slots way.taken way.code) (two_front rest long)
      ∙ no_slot_follows es ds slots way.taken way.code next class (get_or rest 0 0) (get_or rest 1 0) (drop 2 rest) stride (sym hit) (ap (λ k. fits k class) (sym same) ∙ none) in
      end_here e r to told (no_slot_unmarked way.code (one.first es way.code.0 (get_or rest 0 0)) stride)

  -- the last byte
  pub end_last : (later : List Mark) (r : Result Progress Refusal) → 1 ≤ length rest → length rest < 2 → r ≡ told_on way (last (length now - way.written) way.taken way.code (one.first es way.code.0 (get_or rest 0 0)))
      → later ≡ put_marks now way.written (last (length now - way.written) way.taken way.code (one.first es way.code.0 (get_or rest 0 0))).ms → End es ds from piece buffer later r
  end_last later r some few told left =
      let same : length now - way.written ≡ length buffer - way.written = ap (λ k. k - way.written) here.long in
      let e = last (length now - way.written) way.taken way.code (one.first es way.code.0 (get_or rest 0 0)) in
      let to = ap (walked es ds (length buffer - way.written) way.taken way.code) (one_front rest some few)
      ∙ ap (λ n. last n way.taken way.code (one.first es way.code.0 (get_or rest 0 0))) (sym same) in
      end_on e later r to told left

  -- no byte is left
  pub end_all : (p : Progress) → length rest < 1 → p ≡ record { taken = way.taken; marks = way.written; code = way.code; marks_full = false; searches = way.searches + 0 } → End es ds from piece buffer now (Ok p)
  end_all p none is =
      let slots = length buffer - way.written in
      end_here (stopped way.code 0 ended) (Ok p) (ap (walked es ds slots way.taken way.code) (no_front rest none)) (ap (λ (q : Progress). Ok q) is ∙ sym (stop_told way 0 ended)) refl

  -- the loop goes on
  pub here_on : (later : List Mark) (next : StateCode) (class : ℕ) (stride : Stride) (n w : ℕ) (rest' : List ℕ) → 2 ≤ length rest → Some (next, class, stride) ≡ first ds way.code.0 (get_or rest 0 0) (get_or rest 1 0)
      → n ≡ bytes stride → ◌≡◌ {A = Option ℕ} (Some w) (cond (fits (length now - way.written) class) (Some (way.written + length (mark (way.taken + n - 1) class))) None)
      → later ≡ cond (fits (length now - way.written) class) (put_marks now way.written (mark (way.taken + n - 1) class)) now → rest' ≡ take (length rest - n) (drop n rest)
      → Here es ds from piece buffer later (record { taken = way.taken + n; written = w; code = next; searches = way.searches + 1 }) rest'
  here_on later next class stride n w rest' long hit size wrote left slice =
      let f = written_fits (fits (length now - way.written) class) w (way.written + length (mark (way.taken + n - 1) class)) wrote in
      let left_is : later ≡ put_marks now way.written (mark (way.taken + bytes stride - 1) class) =
      left ∙ ap (λ t. cond t (put_marks now way.written (mark (way.taken + n - 1) class)) now) f.0 ∙ ap (λ k. put_marks now way.written (mark (way.taken + k - 1) class)) size in
      let w_is : w ≡ way.written + length (mark (way.taken + bytes stride - 1) class) = f.1 ∙ ap (λ k. way.written + length (mark (way.taken + k - 1) class)) size in
      let rest_is : rest' ≡ drop (bytes stride) rest = slice ∙ sliced n rest ∙ ap (λ k. drop k rest) size in
      let more = here_more es ds from piece buffer now way rest here (get_or rest 0 0) (get_or rest 1 0) (drop 2 rest) next class stride (two_front rest long) hit f.0 in
      subst (λ (l : List Mark). Here es ds from piece buffer l (record { taken = way.taken + n; written = w; code = next; searches = way.searches + 1 }) rest') (sym left_is)
      (subst (λ (l : List ℕ). Here es ds from piece buffer (put_marks now way.written (mark (way.taken + bytes stride - 1) class)) (record { taken = way.taken + n; written = w; code = next; searches = way.searches + 1 }) l) (sym rest_is)
      (subst (λ (k : ℕ). Here es ds from piece buffer (put_marks now way.written (mark (way.taken + bytes stride - 1) class)) (record { taken = way.taken + n; written = k; code = next; searches = way.searches + 1 }) (drop (bytes stride) rest)) (sym w_is)
      (subst (λ (k : ℕ). Here es ds from piece buffer (put_marks now way.written (mark (way.taken + bytes stride - 1) class)) (record { taken = way.taken + k; written = way.written + length (mark (way.taken + bytes stride - 1) class); code = next; searches = way.searches + 1 }) (drop (bytes stride) rest)) (sym size) more)))
