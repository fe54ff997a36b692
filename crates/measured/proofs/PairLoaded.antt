-- What is fed to a scanner over two cards after a load.
use Rattle.std.proofs.Common.{◌≡◌, ℕ, List, length, Option, sym, subst}
use Rattle.ternary.specs.declared.entry.Entry.{Entry}
use Rattle.ternary.specs.declared.refusal.Refusal.{Refusal}
use Rattle.ternary.specs.declared.words.Mark.{Mark}
use Rattle.ternary.specs.Refusals.{number, values}
use Rattle.automaton.specs.Limits.{Handed}
use Rattle.image.specs.Format.{decode}
use Rattle.pairs.specs.declared.pair.PairEntry.{PairEntry}
use Rattle.pair_image.specs.Format as pair
use Rattle.pair_scanner.specs.Book.{LoadRefuses, Loadable}
use Rattle.pair_scanner.specs.Scanners.{Seen, Entered}
use Rattle.pair_scanner.specs.declared.lent.Position.{Position}
use Rattle.measured.specs.PairFeeds.{PairFed, PairFeedsTold, refused, fed}

-- a load that is refused on cards of 4,096 places tells its number
pub told_refused : (a : Handed) (pair_image image piece : List ℕ) (n pair_size size sum : ℕ) (why : Refusal) → pair_size ≡ 4096 → size ≡ 4096
    → LoadRefuses pair_size size a pair_image image (number why) (values why) → sum ≡ number why → PairFeedsTold a pair_image image piece n sum
told_refused a pair_image image piece n pair_size size sum why pair_full full refuses is =
    subst (λ x. PairFeedsTold a pair_image image piece n x) (sym is)
    (refused why (subst (λ s. LoadRefuses 4096 s a pair_image image (number why) (values why)) full
    (subst (λ s. LoadRefuses s size a pair_image image (number why) (values why)) pair_full refuses)))

-- feeds after a load that is accepted are over the images' entries, from the start state's code
pub told_fed : (a : Handed) (pair_image image piece : List ℕ) (n sum : ℕ) (before after : Seen) (marks marks' : List Mark) (at : Option Position)
    → Entered a pair_image image before after → before.pair_capacity ≡ 4096 → before.capacity ≡ 4096 → length marks ≡ 4096
    → PairFed after.pair_list after.list piece after.position marks n at marks' sum → PairFeedsTold a pair_image image piece n sum
told_fed a pair_image image piece n sum before after marks marks' at entered pair_full full slots feeds =
    let pair_listed = subst (λ (ds : List PairEntry). PairFed ds after.list piece after.position marks n at marks' sum) entered.pair_list feeds in
    let listed = subst (λ (es : List Entry). PairFed (pair.decode pair_image).entries es piece after.position marks n at marks' sum) entered.list pair_listed in
    let placed = subst (λ (p : Option Position). PairFed (pair.decode pair_image).entries (decode image).entries piece p marks n at marks' sum) entered.position listed in
    let loadable = subst (λ s. Loadable 4096 s a pair_image image) full (subst (λ s. Loadable s before.capacity a pair_image image) pair_full entered.loadable) in
    fed loadable slots placed
