use Rattle.std.proofs.Common.{◌≡◌, ◌+◌, List, ℕ, refl, sym, subst, rules, arith}
use Rattle.std.specs.Prelude.{Ok}
use Rattle.capnp_format.specs.Tree.{Flat}
use Rattle.capnp_in_place.specs.Existing.{size_of}
use Rattle.capnp_builders.specs.Held.{HasList}
use Rattle.capnp_layout_c.specs.Buffers.{placed_list, words_in}
use Rattle.capnp_layout_c.specs.Lists.{listed_at}
use Rattle.capnp_layout_c.specs.declared.building.places.ElementsAt.{ElementsAt}
use Rattle.capnp_layout_c.proofs.BuildingCalls.{Tie}
use Rattle.capnp_layout_c.proofs.BuildingLists.{found_in_buffer, list_in_buffer, numbers_listed}
use Rattle.capnp_layout_c.proofs.building.opening.capnp_layout_get_list.Goals as goal

pub returns-in-Ok-clause-finds : goal.returns-in-Ok-clause-finds
returns-in-Ok-clause-finds c _ _ =
    let a = c.new-arena.result in
    let tie : Tie a a c.args.bytes.now c.args.bytes.now c.args.used c.args.used = record {
      lent = _;
      is = c.new-arena.ensures.bytes;
      was = refl;
      from_is = c.new-arena.ensures.used;
      fresh = c.new-arena.ensures.refused;
      used_is = c.new-arena.ensures.used;
      back = λ _. search rules;
    } in
    let p = c.args.place in
    let same : p.at + c.from.result + c.from-2.result ≡ p.at + p.data_words + c.args.index = omega (arith, c.from.ensures, c.from-2.ensures) in
    found_in_buffer tie (Ok c.in-Ok.found) 0 c.args.size (p.at + c.from.result + c.from-2.result) (p.at + p.data_words + c.args.index) _ c.elements_of.result
    same c.element_size-expected.ensures.is refl c.in-Ok.ensures c.elements_of.ensures

pub returns-in-Ok-clause-there : goal.returns-in-Ok-clause-there
returns-in-Ok-clause-there c n ns stored _ =
    let a = c.new-arena.result in
    let tie : Tie a a c.args.bytes.now c.args.bytes.now c.args.used c.args.used = record {
      lent = _;
      is = c.new-arena.ensures.bytes;
      was = refl;
      from_is = c.new-arena.ensures.used;
      fresh = c.new-arena.ensures.refused;
      used_is = c.new-arena.ensures.used;
      back = λ _. search rules;
    } in
    let p = c.args.place in
    let at : ℕ = p.at + p.data_words + c.args.index in
    let same : p.at + c.from.result + c.from-2.result ≡ at = omega (arith, c.from.ensures, c.from-2.ensures) in
    let finds = list_in_buffer tie (Ok c.in-Ok.found) c.args.size (p.at + c.from.result + c.from-2.result) at _ same c.element_size-expected.ensures.is c.in-Ok.ensures in
    let to = c.elements_of.result in
    subst (λ (bs : List ℕ). HasList (words_in bs c.args.used) 0 at (placed_list (size_of to.size) (listed_at to.at to.count)) (Flat n ns)) (search rules)
    (subst (λ (e : ElementsAt). HasList (words_in c.args.bytes.now c.args.used) 0 at (placed_list (size_of e.size) (listed_at e.at e.count)) (Flat n ns)) (sym c.elements_of.ensures)
    (numbers_listed (words_in c.args.bytes.now c.args.used) at n (size_of c.args.size) ns c.in-Ok.found refl stored finds))
