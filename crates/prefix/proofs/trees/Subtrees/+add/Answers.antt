use Rattle.std.proofs.Common.{◌-◌, ◌^◌, ◌<◌, ap, arith}
use Rattle.prefix.specs.Subtrees.{room}
use Rattle.prefix.proofs.Standing.{low_below, high_below, nodes_now, halves_small, halves_inside, halves_room, prefix_added, room_step, low_fits, high_fits, high_room}
use Rattle.prefix.proofs.trees.Subtrees.+add.Goals as goal

pub add-add_half-low-requires : goal.add-add_half-low-requires
add-add_half-low-requires t c =
    let p = c.args.prefix in
    let fits = low_fits p c.halves.result.0 c.halves.ensures.0 c.requires.inside.1 in
    omega (arith, fits, ap (λ n. 2 ^ (8 - n)) fits.0, ap (λ n. room (8 - n)) fits.0, room_step p.bits (omega arith))

pub add-add_half-high-requires : goal.add-add_half-high-requires
add-add_half-high-requires t c =
    let p = c.args.prefix in
    let h : p.bits < 8 = omega arith in
    let fits = high_fits p c.halves.result.1 c.halves.ensures.1 c.requires.inside.1 in
    let left = high_room p h c.args.self.now c.add_half-low.new.self _ _ c.halves.ensures.0 c.add_half-low.ensures in
    omega (arith, fits, ap (λ n. 2 ^ (8 - n)) fits.0, ap (λ n. room (8 - n)) fits.0, room_step p.bits h, left)

pub add-node-requires : goal.add-node-requires
add-node-requires t c =
    let p = c.args.prefix in
    low_below p (omega arith) c.args.self.now c.add_half-low.new.self c.add_half-high.new.self _ _ _ _ c.halves.ensures.0 c.halves.ensures.1 c.add_half-low.ensures c.add_half-high.ensures

pub add-node-requires-2 : goal.add-node-requires-2
add-node-requires-2 t c =
    let p = c.args.prefix in
    high_below p (omega arith) c.args.self.now c.add_half-low.new.self c.add_half-high.new.self _ _ _ _ c.halves.ensures.0 c.halves.ensures.1 c.add_half-low.ensures c.add_half-high.ensures

pub add-of_halves-node-requires : goal.add-of_halves-node-requires
add-of_halves-node-requires t c =
    let p = c.args.prefix in
    let h : p.bits < 8 = omega arith in
    record {
      small = halves_small p h c.args.self.now c.add_half-low.new.self c.add_half-high.new.self _ _ _ _ c.halves.ensures.0 c.halves.ensures.1 c.add_half-low.ensures c.add_half-high.ensures _ _ c.node.ensures c.node-2.ensures;
      inside = halves_inside p h c.args.self.now c.add_half-low.new.self c.add_half-high.new.self _ _ _ _ c.halves.ensures.0 c.halves.ensures.1 c.add_half-low.ensures c.add_half-high.ensures _ _ c.node.ensures c.node-2.ensures;
      room = omega (arith, halves_room p h c.args.self.now c.add_half-low.new.self c.add_half-high.new.self _ _ _ _ c.halves.ensures.0 c.halves.ensures.1 c.add_half-low.ensures c.add_half-high.ensures _ _ c.node.ensures c.node-2.ensures);
    }

pub add-push-requires : goal.add-push-requires
add-push-requires t c =
    let p = c.args.prefix in
    let h : p.bits < 8 = omega arith in
    omega (arith, nodes_now p h c.args.self.now c.add_half-low.new.self c.add_half-high.new.self _ _ _ _ c.halves.ensures.0 c.halves.ensures.1 c.add_half-low.ensures c.add_half-high.ensures)

pub add-returns : goal.add-returns
add-returns t c =
    let p = c.args.prefix in
    let h : p.bits < 8 = omega arith in
    prefix_added p h c.args.self.now c.add_half-low.new.self c.add_half-high.new.self _ _ _ _ c.halves.ensures.0 c.halves.ensures.1 c.add_half-low.ensures c.add_half-high.ensures _ _ c.node.ensures c.node-2.ensures
    c.push.new.self c.of_halves-node.result _ c.push.result c.of_halves-node.ensures.joined c.of_halves-node.ensures.halves c.push.ensures.number c.push.ensures.nodes c.push.ensures.rest.0 (ap (λ v. v.items) c.push.ensures.rest.1)
