use Rattle.std.proofs.Common.{◌≡◌, ◌++◌, None, List, length, sym, refl, ap, ◌∙◌, subst, arith, lit<, lit≤}
use Rattle.std.specs.List.{AllByRecursion}
use Rattle.ternary.specs.declared.words.StateNo.{StateNo}
use Rattle.prefix.specs.declared.word.PrefixWord.{PrefixWord}
use Rattle.prefix.specs.Words.{Formed, Shortest}
use Rattle.prefix.specs.States.{flags, successors}
use Rattle.prefix.specs.Listed.{all_bytes, chosen, numbered, words_for}
use Rattle.prefix.proofs.Choosing.{chosen_formed, chosen-shortest}
use Rattle.prefix.proofs.Listing.{list, list≤, root_stands, root_words, root_room}
use Rattle.prefix.proofs.lists.shortest_list.Goals as goal

pub emit-requires : goal.emit-requires
emit-requires c =
    let row = numbered c.args.row.now in
    let marked = flags c.args.deferrable.now in
    record {
      inside = (lit≤ tt, lit< tt);
      stands = root_stands _ all_bytes c.new-subtrees.result c.add-root.new.self c.add-root.result c.new-subtrees.ensures.row c.add-root.ensures;
      room =
          root_room _ all_bytes c.new-subtrees.result c.add-root.new.self c.add-root.result c.new-subtrees.ensures.row c.add-root.ensures c.new-words.result.items c.new-words.ensures None (list≤ row marked);
    }

pub returns : goal.returns
unfolding chosen
returns c =
    let row = numbered c.args.row.now in
    let marked = flags c.args.deferrable.now in
    let states = successors c.args.row.now in
    let words : c.emit.new.words.items ≡ list row marked =
    c.emit.ensures ∙ (ap (λ zs. zs ++ words_for c.add-root.new.self.row all_bytes None) c.new-words.ensures ∙ root_words _ all_bytes c.new-subtrees.result c.add-root.new.self c.add-root.result c.new-subtrees.ensures.row c.add-root.ensures None) in
    record {
      words = words;
      shortest = subst (λ (ws : List (PrefixWord StateNo)). Shortest ws states marked) (sym words) (chosen-shortest row marked states (λ byte h. refl));
      formed = subst (λ (ws : List (PrefixWord StateNo)). AllByRecursion Formed ws) (sym words) (chosen_formed row marked);
      bound = omega (arith, ap length words, list≤ row marked);
    }
