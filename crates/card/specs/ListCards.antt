-- What a list card means. Assumes nothing.
use Rattle.std.specs.Prelude.{ℕ, ◌-◌, List, length, take}
use Rattle.ternary.specs.declared.entry.Entry.{Entry}
use Rattle.card.specs.declared.list.ListCard.{ListCard}

-- the list: the places in use at the front of the buffer, in order
abbrev pub listed : ListCard → List Entry
listed c = take c.used c.buffer.now

-- the free count: the places behind them
abbrev pub unused : ListCard → ℕ
unused c = length c.buffer.now - c.used

-- the capacity: all places of the buffer
abbrev pub places : ListCard → ℕ
places c = length c.buffer.now
