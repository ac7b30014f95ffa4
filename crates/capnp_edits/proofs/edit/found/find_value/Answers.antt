use Rattle.std.proofs.Common.{rules, ◌≡◌, true, sym, subst}
use Rattle.capnp_allocation.specs.Makes.{call_at}
use Rattle.capnp_edits.specs.declared.edit.path.PathEnd.TheVariants.{Pointer as AtPointer}
use Rattle.capnp_edits.specs.declared.edit.tasks.Task.TheVariants.{Search}
use Rattle.capnp_edits.specs.Tasks.{is_in_range}
use Rattle.capnp_edits.specs.Edits.{refusal_of, place_of}
use Rattle.capnp_edits.specs.Steps.{IsDoneAt}
use Rattle.capnp_edits.proofs.Sought.{few_words, list_range, struct_sought, list_sought, structs_sought, text_sought, data_sought}
use Rattle.capnp_edits.proofs.edit.found.find_value.Goals as goal

pub get_struct_place-requires : goal.get_struct_place-requires
get_struct_place-requires g c = record { there = c.requires.there; few = few_words c.args.default (subst (λ s. is_in_range (Search s c.args.default) ≡ true) c.in-Struct.is c.requires.range) }

pub returns-in-Struct : goal.returns-in-Struct
returns-in-Struct g c =
    let old = g.A.BuilderArena.view c.args.pointer.now.arena.now in
    let new = g.A.BuilderArena.view c.get_struct_place.new.self.arena.now in
    record {
      done = rw c.discard_value.ensures (
          subst (λ s. IsDoneAt old new (AtPointer (place_of c.args.pointer.now)) (Search s c.args.default) (refusal_of c.get_struct_place.result)) (sym c.in-Struct.is)
          (struct_sought c.get_struct_place.result c.in-Struct.size c.args.default (call_at c.args.pointer.now.segment c.args.pointer.now.at old new) c.requires.there c.get_struct_place.ensures.found.found c.get_struct_place.ensures.set c.get_struct_place.ensures.found.memory.granted c.get_struct_place.ensures.found.memory.refused c.get_struct_place.ensures.fits c.get_struct_place.ensures.empty));
      same = search rules;
    }

pub get_list_place-requires-clause-takes : goal.get_list_place-requires-clause-takes
get_list_place-requires-clause-takes g c = record { there = c.requires.there; few = few_words c.args.default (list_range c.in-List.size c.args.default (subst (λ s. is_in_range (Search s c.args.default) ≡ true) c.in-List.is c.requires.range)).1 }

pub get_list_place-requires-clause-plain : goal.get_list_place-requires-clause-plain
get_list_place-requires-clause-plain g c = (list_range c.in-List.size c.args.default (subst (λ s. is_in_range (Search s c.args.default) ≡ true) c.in-List.is c.requires.range)).0

pub returns-in-List : goal.returns-in-List
returns-in-List g c =
    let old = g.A.BuilderArena.view c.args.pointer.now.arena.now in
    let new = g.A.BuilderArena.view c.get_list_place.new.self.arena.now in
    record {
      done = rw c.discard_value-in-List.ensures (
          subst (λ s. IsDoneAt old new (AtPointer (place_of c.args.pointer.now)) (Search s c.args.default) (refusal_of c.get_list_place.result)) (sym c.in-List.is)
          (list_sought c.get_list_place.result c.in-List.size c.args.default (call_at c.args.pointer.now.segment c.args.pointer.now.at old new) c.requires.there c.get_list_place.ensures.found.finds.found c.get_list_place.ensures.found.set c.get_list_place.ensures.found.finds.memory.granted c.get_list_place.ensures.found.finds.memory.refused));
      same = search rules;
    }

pub get_struct_list_place-requires : goal.get_struct_list_place-requires
get_struct_list_place-requires g c = record { there = c.requires.there; few = few_words c.args.default (subst (λ s. is_in_range (Search s c.args.default) ≡ true) c.in-StructList.is c.requires.range) }

pub returns-in-StructList : goal.returns-in-StructList
returns-in-StructList g c =
    let old = g.A.BuilderArena.view c.args.pointer.now.arena.now in
    let new = g.A.BuilderArena.view c.get_struct_list_place.new.self.arena.now in
    record {
      done = rw c.discard_value-in-StructList.ensures (
          subst (λ s. IsDoneAt old new (AtPointer (place_of c.args.pointer.now)) (Search s c.args.default) (refusal_of c.get_struct_list_place.result)) (sym c.in-StructList.is)
          (structs_sought c.get_struct_list_place.result c.in-StructList.size c.args.default (call_at c.args.pointer.now.segment c.args.pointer.now.at old new) c.requires.there c.get_struct_list_place.ensures.found.found c.get_struct_list_place.ensures.set c.get_struct_list_place.ensures.found.memory.granted c.get_struct_list_place.ensures.found.memory.refused c.get_struct_list_place.ensures.fits));
      same = search rules;
    }

pub get_text_place-requires : goal.get_text_place-requires
get_text_place-requires g c = record { there = c.requires.there; few = few_words c.args.default (subst (λ s. is_in_range (Search s c.args.default) ≡ true) c.in-Text.is c.requires.range) }

pub returns-in-Text : goal.returns-in-Text
returns-in-Text g c =
    let old = g.A.BuilderArena.view c.args.pointer.now.arena.now in
    let new = g.A.BuilderArena.view c.get_text_place.new.self.arena.now in
    record {
      done = rw c.discard_value-in-Text.ensures (
          subst (λ s. IsDoneAt old new (AtPointer (place_of c.args.pointer.now)) (Search s c.args.default) (refusal_of c.get_text_place.result)) (sym c.in-Text.is)
          (text_sought c.get_text_place.result c.args.default (call_at c.args.pointer.now.segment c.args.pointer.now.at old new) c.requires.there c.get_text_place.ensures.found.finds.found c.get_text_place.ensures.found.set c.get_text_place.ensures.found.finds.memory.granted c.get_text_place.ensures.found.finds.memory.refused));
      same = search rules;
    }

pub get_data_place-requires : goal.get_data_place-requires
get_data_place-requires g c = record { there = c.requires.there; few = few_words c.args.default (subst (λ s. is_in_range (Search s c.args.default) ≡ true) c.in-Data.is c.requires.range) }

pub returns-in-Data : goal.returns-in-Data
returns-in-Data g c =
    let old = g.A.BuilderArena.view c.args.pointer.now.arena.now in
    let new = g.A.BuilderArena.view c.get_data_place.new.self.arena.now in
    record {
      done = rw c.discard_value-in-Data.ensures (
          subst (λ s. IsDoneAt old new (AtPointer (place_of c.args.pointer.now)) (Search s c.args.default) (refusal_of c.get_data_place.result)) (sym c.in-Data.is)
          (data_sought c.get_data_place.result c.args.default (call_at c.args.pointer.now.segment c.args.pointer.now.at old new) c.requires.there c.get_data_place.ensures.found.finds.found c.get_data_place.ensures.found.set c.get_data_place.ensures.found.finds.memory.granted c.get_data_place.ensures.found.finds.memory.refused));
      same = search rules;
    }
