use Rattle.std.proofs.Common.{◌≡◌, ◌+◌, Err, Ok, Result, OnOk, length, List, ℕ, [], sym, refl, ap, ◌∙◌, subst, inl, inr}
use Rattle.std.proofs.lemmas.Result.{err_from_is_err_and}
use Rattle.std.proofs.lemmas.Bool.{false≢true, both_ways}
use Rattle.automaton.specs.Limits.{handed}
use Rattle.image.specs.Format.{Parts, decode}
use Rattle.pair_image.specs.Format.{decode as pair_decode}
use Rattle.pair_image.specs.Format as pair
use Rattle.pairs.specs.Cards.{unused, places}
use Rattle.ternary.specs.declared.refusal.Refusal.{Refusal}
use Rattle.ternary.specs.declared.refusal.Refusal.TheVariants.{CardTooSmall, CodesDiffer}
use Rattle.pair_scanner.specs.Book.{two_unchecked, one_unchecked, codes_differ, too_small}
use Rattle.pair_scanner.specs.Scanners.{Seen, seen, at_start, LoadAnswer, Entered}
use Rattle.scanner.proofs.Entering as single
use Rattle.pair_scanner.proofs.Entering.{same_to, same_back, pair_parts, pair_exceeds, pair_suffices, pair_few, pair_fits, pair_left, one_parts, one_exceeds, one_fits}
use Rattle.pair_scanner.proofs.Turns.{load_declines, load_enters}
use Rattle.pair_scanner.proofs.lent.PairScanner.load.Goals as goal

pub returns-in_err-check : goal.returns-in_err-check
returns-in_err-check g c =
    let p = err_from_is_err_and c.from_residual.result c.from_residual.ensures.1 in
    let err = p.1 ∙ ap Err p.2 in
    let s = seen g.C.Card.entries g.C.Card.size c.args.two.now c.args.one.now c.args.self.now in
    let a = handed c.args.automaton in
    let why = two_unchecked c.in_err-check.ensures.answer in
    record {
      refused = λ e. (refl, refl, refl);
      answer = subst (LoadAnswer a c.args.two_image.now c.args.one_image.now s s) (sym err) why;
      free = subst (λ (r : Result (Unit {0}) Refusal). OnOk r ((unused c.args.two.now + length (pair_decode c.args.two_image.now).entries ≡ places c.args.two.now) × (g.C.Card.free c.args.one.now + length (decode c.args.one_image.now).entries ≡ g.C.Card.size c.args.one.now))) (sym err) tt;
      keeps = load_declines s a c.args.two_image.now c.args.one_image.now c.from_residual.result _ err why;
    }

pub returns-in_err-check-2 : goal.returns-in_err-check-2
returns-in_err-check-2 g c =
    let p = err_from_is_err_and c.from_residual-in_err-check-2.result c.from_residual-in_err-check-2.ensures.1 in
    let err = p.1 ∙ ap Err p.2 in
    let s = seen g.C.Card.entries g.C.Card.size c.args.two.now c.args.one.now c.args.self.now in
    let a = handed c.args.automaton in
    let why = one_unchecked c.in_ok-check.ensures.answer c.in_err-check-2.ensures.answer in
    record {
      refused = λ e. (refl, refl, refl);
      answer = subst (LoadAnswer a c.args.two_image.now c.args.one_image.now s s) (sym err) why;
      free = subst (λ (r : Result (Unit {0}) Refusal). OnOk r ((unused c.args.two.now + length (pair_decode c.args.two_image.now).entries ≡ places c.args.two.now) × (g.C.Card.free c.args.one.now + length (decode c.args.one_image.now).entries ≡ g.C.Card.size c.args.one.now))) (sym err) tt;
      keeps = load_declines s a c.args.two_image.now c.args.one_image.now c.from_residual-in_err-check-2.result _ err why;
    }

pub returns-then-not-same_codes : goal.returns-then-not-same_codes
returns-then-not-same_codes g c =
    let s = seen g.C.Card.entries g.C.Card.size c.args.two.now c.args.one.now c.args.self.now in
    let a = handed c.args.automaton in
    let why = codes_differ c.in_ok-check.ensures.answer c.in_ok-check-2.ensures.answer
    (λ same. both_ways c.same_codes.result c.if-not-same_codes.true (c.same_codes.ensures.1 (same_back c.args.two_image.now c.args.one_image.now c.in_ok-pairs.pairs c.in_ok-image.image c.in_ok-pairs.ensures c.in_ok-image.ensures same))) in
    record {
      refused = λ e. (refl, refl, refl);
      answer = why;
      free = tt;
      keeps = load_declines s a c.args.two_image.now c.args.one_image.now (Err CodesDiffer) CodesDiffer refl why;
    }

pub returns-then-header-capacity : goal.returns-then-header-capacity
returns-then-header-capacity g c =
    let s = seen g.C.Card.entries g.C.Card.size c.args.two.now c.args.one.now c.args.self.now in
    let a = handed c.args.automaton in
    let same = same_to c.args.two_image.now c.args.one_image.now c.in_ok-pairs.pairs c.in_ok-image.image c.in_ok-pairs.ensures c.in_ok-image.ensures (c.same_codes.ensures.0 c.if-not-same_codes.false) in
    let why = too_small c.in_ok-check.ensures.answer c.in_ok-check-2.ensures.answer same
    (inl (pair_exceeds a c.args.two_image.now c.in_ok-pairs.pairs c.in_ok-pairs.ensures c.header.result c.header.ensures s.pair_capacity c.capacity.result c.capacity.ensures c.if-header-capacity.true)) in
    record {
      refused = λ e. (refl, refl, refl);
      answer = why;
      free = tt;
      keeps = load_declines s a c.args.two_image.now c.args.one_image.now (Err CardTooSmall) CardTooSmall refl why;
    }

pub returns-then-header-capacity-2 : goal.returns-then-header-capacity-2
returns-then-header-capacity-2 g c =
    let s = seen g.C.Card.entries g.C.Card.size c.args.two.now c.args.one.now c.args.self.now in
    let a = handed c.args.automaton in
    let same = same_to c.args.two_image.now c.args.one_image.now c.in_ok-pairs.pairs c.in_ok-image.image c.in_ok-pairs.ensures c.in_ok-image.ensures (c.same_codes.ensures.0 c.if-not-same_codes.false) in
    let why = too_small c.in_ok-check.ensures.answer c.in_ok-check-2.ensures.answer same
    (inr (one_exceeds a c.args.one_image.now c.in_ok-image.image c.in_ok-check-2.ensures.answer c.in_ok-image.ensures c.header-2.result c.header-2.ensures s.capacity c.capacity-2.result c.capacity-2.ensures c.if-header-capacity-2.true)) in
    record {
      refused = λ e. (refl, refl, refl);
      answer = why;
      free = tt;
      keeps = load_declines s a c.args.two_image.now c.args.one_image.now (Err CardTooSmall) CardTooSmall refl why;
    }

pub unreachable-requires : goal.unreachable-requires
unreachable-requires g c =
    single.start_coded (handed c.args.automaton) c.args.one_image.now c.in_ok-image.image c.in_ok-check-2.ensures.answer c.in_ok-image.ensures c.header-2.result c.header-2.ensures (sym c.code.ensures ∙ c.in_default.is)

pub fill_pairs-requires : goal.fill_pairs-requires
fill_pairs-requires g c =
    let a = handed c.args.automaton in
    record {
      few = pair_few a c.args.two_image.now c.in_ok-pairs.pairs c.in_ok-pairs.ensures c.header.result c.header.ensures;
      room = pair_fits a c.args.two_image.now c.in_ok-pairs.pairs c.in_ok-pairs.ensures c.header.result c.header.ensures (places c.args.two.now) c.capacity.result c.capacity.ensures c.if-header-capacity.false;
    }

pub fill-requires : goal.fill-requires
fill-requires g c =
    let a = handed c.args.automaton in
    record {
      few = single.few a c.args.one_image.now c.in_ok-image.image c.in_ok-check-2.ensures.answer c.in_ok-image.ensures c.header-2.result c.header-2.ensures;
      room = one_fits a c.args.one_image.now c.in_ok-image.image c.in_ok-check-2.ensures.answer c.in_ok-image.ensures c.header-2.result c.header-2.ensures (g.C.Card.size c.args.one.now) c.capacity-2.result c.capacity-2.ensures c.if-header-capacity-2.false;
    }

pub returns : goal.returns
returns g c =
    let before = seen g.C.Card.entries g.C.Card.size c.args.two.now c.args.one.now c.args.self.now in
    let a = handed c.args.automaton in
    let two = c.args.two_image.now in
    let one = c.args.one_image.now in
    let un2 = c.in_ok-pairs.ensures in
    let un1 = c.in_ok-image.ensures in
    let ok2 = c.in_ok-check.ensures.answer in
    let ok1 = c.in_ok-check-2.ensures.answer in
    let after = seen g.C.Card.entries g.C.Card.size c.fill_pairs.new.card c.fill.new.card (record { position = at_start c.in-Some.start }) in
    let done : Entered a two one before after = record {
      loadable = record {
        two = ok2;
        one = ok1;
        same = same_to two one c.in_ok-pairs.pairs c.in_ok-image.image un2 un1 (c.same_codes.ensures.0 c.if-not-same_codes.false);
        two_room = pair_suffices a two c.in_ok-pairs.pairs un2 c.header.result c.header.ensures (places c.args.two.now) c.capacity.result c.capacity.ensures c.if-header-capacity.false;
        one_room = single.suffices a one c.in_ok-image.image ok1 un1 c.header-2.result c.header-2.ensures (g.C.Card.size c.args.one.now) c.capacity-2.result c.capacity-2.ensures c.if-header-capacity-2.false;
      };
      pair_list = c.fill_pairs.ensures.listed ∙ ap (λ (p : pair.Parts). p.entries) (pair_parts a two c.in_ok-pairs.pairs un2);
      list = c.fill.ensures.listed ∙ ap (λ (p : Parts). p.entries) (one_parts a one c.in_ok-image.image ok1 un1 c.header-2.result c.header-2.ensures);
      pair_capacity = c.fill_pairs.ensures.capacity;
      capacity = c.fill.ensures.capacity;
      position = ap at_start (single.start_code a one c.in_ok-image.image ok1 un1 c.header-2.result c.header-2.ensures c.in-Some.start (sym c.code.ensures ∙ c.in-Some.is));
    } in
    record {
      refused = λ e. absurd (false≢true e);
      answer = done;
      free = (
        pair_left a two c.in_ok-pairs.pairs un2 c.header.result c.header.ensures _ _ c.fill_pairs.ensures.free,
        single.left_free a one c.in_ok-image.image ok1 un1 c.header-2.result c.header-2.ensures _ _ c.fill.ensures.free,
      );
      keeps = load_enters before after a two one done;
    }
