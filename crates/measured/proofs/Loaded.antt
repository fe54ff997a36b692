-- What is fed to a scanner after a load.
use Rattle.std.proofs.Common.{◌≡◌, ℕ, List, length, Option, sym, subst}
use Rattle.ternary.specs.declared.entry.Entry.{Entry}
use Rattle.ternary.specs.declared.refusal.Refusal.{Refusal}
use Rattle.ternary.specs.declared.words.Mark.{Mark}
use Rattle.ternary.specs.Refusals.{number, values}
use Rattle.automaton.specs.Limits.{Handed}
use Rattle.image.specs.Format.{decode}
use Rattle.scanner.specs.Book.{LoadRefuses}
use Rattle.scanner.specs.Scanners.{Seen, Entered}
use Rattle.scanner.specs.declared.scanner.Position.{Position}
use Rattle.measured.specs.Feeds.{Fed, FeedsTold, refused, fed}

-- a load that is refused by a card of 4,096 places tells its number
pub told_refused : (a : Handed) (image piece : List ℕ) (n size sum : ℕ) (why : Refusal) → size ≡ 4096 → LoadRefuses size a image (number why) (values why) → sum ≡ number why → FeedsTold a image piece n sum
told_refused a image piece n size sum why full refuses is =
    subst (λ x. FeedsTold a image piece n x) (sym is) (refused why (subst (λ s. LoadRefuses s a image (number why) (values why)) full refuses))

-- feeds after a load that is accepted are over the image's entries, from the start state's code
pub told_fed : (a : Handed) (image piece : List ℕ) (n sum : ℕ) (before after : Seen) (marks marks' : List Mark) (at : Option Position)
    → Entered a image before after → length marks ≡ 4096 → Fed after.listed piece after.position marks n at marks' sum → FeedsTold a image piece n sum
told_fed a image piece n sum before after marks marks' at entered slots feeds =
    let listed = subst (λ (es : List Entry). Fed es piece after.position marks n at marks' sum) entered.listed feeds in
    let placed = subst (λ (p : Option Position). Fed (decode image).entries piece p marks n at marks' sum) entered.position listed in
    fed entered.acceptable slots placed
