use Rattle.std.proofs.Common.{◌≡◌, ◌<◌, set, arith}
use Rattle.std.proofs.lemmas.List.{length-set}
use Rattle.ternary.specs.Match.{Decision, decision}
use Rattle.column.specs.ColumnCards.{room}
use Rattle.column.proofs.Listing.{added_behind, room-same}
use Rattle.column.proofs.columns.ColumnCardCard.append.Goals as goal

pub returns : goal.returns
returns c =
    let ws = c.args.self.now.words.now in
    let after = c.write_entry.new.words in
    let ds = c.args.self.now.decisions.now in
    let n = c.args.self.now.used in
    let e = c.args.e in
    let d : Decision = (c.next.result, c.class.result) in
    let decided : d ≡ decision e = λ i. (c.next.ensures i, c.class.ensures i) in
    let fits : n < room ws ds = omega arith in
    let kept : room after (set ds n d) ≡ room ws ds = room-same ws after ds (set ds n d) c.write_entry.auto.words (length-set ds n d) in
    let written = c.write_entry.ensures in
    record {
      cases = added_behind ws after ds n e d decided written.kept written.code written.byte (omega arith) (omega arith) (omega arith) (omega arith) fits kept;
      same_size = kept;
    }
