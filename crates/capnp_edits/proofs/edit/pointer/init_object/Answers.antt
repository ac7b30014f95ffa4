use Rattle.std.proofs.Common.{rules, ◌+◌, ◌*◌, [], ◌∷◌, length, OnOk, refl, sym, ap, subst, arith}
use Rattle.std.proofs.lemmas.List.{length-append}
use Rattle.capnp_words.specs.Sizes.{size_number}
use Rattle.capnp_format.specs.Numbers.{words_for}
use Rattle.capnp_edits.specs.declared.edit.path.PathEnd.TheVariants.{Pointer as AtPointer}
use Rattle.capnp_edits.specs.declared.edit.tasks.Task.TheVariants.{Make}
use Rattle.capnp_edits.specs.declared.edit.tasks.NewObject.TheVariants.{ZeroStruct, ZeroList, ZeroStructs, ZeroText, Text, Data}
use Rattle.capnp_edits.specs.Edits.{refusal_of, place_of}
use Rattle.capnp_edits.specs.Steps.{IsDoneAt}
use Rattle.capnp_allocation.specs.Makes.{call_at}
use Rattle.capnp_allocation.specs.Near.{LeadsToEnd}
use Rattle.capnp_edits.proofs.Applied.{struct_words, list_words_are, structs_words_are, struct_leads, leads_behind, object_made}
use Rattle.capnp_edits.proofs.edit.pointer.init_object.Goals as goal

pub returns-in-ZeroStruct : goal.returns-in-ZeroStruct
returns-in-ZeroStruct g c =
    let old = g.A.BuilderArena.view c.args.pointer.now.arena.now in
    let new = g.A.BuilderArena.view c.init_struct_place.new.self.arena.now in
    let place = place_of c.args.pointer.now in
    record {
      done = rw c.discard_value.ensures (
          subst (λ o. IsDoneAt old new (AtPointer place) (Make o) (refusal_of c.init_struct_place.result)) (sym c.in-ZeroStruct.is)
          (object_made c.init_struct_place.result old new place (ZeroStruct c.in-ZeroStruct.size) _ (struct_words c.in-ZeroStruct.size) c.init_struct_place.ensures.object
          (struct_leads c.init_struct_place.result (call_at place.segment place.word old new) c.in-ZeroStruct.size (rw (c.init_struct_place.ensures.builder.segment, c.init_struct_place.ensures.builder.at) at c.init_struct_place.ensures.empty))));
      same = search rules;
    }

pub returns-in-ZeroList : goal.returns-in-ZeroList
returns-in-ZeroList g c =
    let old = g.A.BuilderArena.view c.args.pointer.now.arena.now in
    let new = g.A.BuilderArena.view c.init_list_place.new.self.arena.now in
    let place = place_of c.args.pointer.now in
    record {
      done = rw c.discard_value-in-ZeroList.ensures (
          subst (λ o. IsDoneAt old new (AtPointer place) (Make o) (refusal_of c.init_list_place.result)) (sym c.in-ZeroList.is)
          (object_made c.init_list_place.result old new place (ZeroList c.in-ZeroList.size c.in-ZeroList.count) _ (list_words_are (size_number c.in-ZeroList.size) c.in-ZeroList.count) c.init_list_place.ensures.object
          (subst (λ n. OnOk c.init_list_place.result (LeadsToEnd (call_at place.segment place.word old new) n)) (list_words_are (size_number c.in-ZeroList.size) c.in-ZeroList.count) c.init_list_place.ensures.at_end)));
      same = search rules;
    }

pub returns-in-ZeroStructs : goal.returns-in-ZeroStructs
returns-in-ZeroStructs g c =
    let old = g.A.BuilderArena.view c.args.pointer.now.arena.now in
    let new = g.A.BuilderArena.view c.init_struct_list_place.new.self.arena.now in
    let place = place_of c.args.pointer.now in
    record {
      done = rw c.discard_value-in-ZeroStructs.ensures (
          subst (λ o. IsDoneAt old new (AtPointer place) (Make o) (refusal_of c.init_struct_list_place.result)) (sym c.in-ZeroStructs.is)
          (object_made c.init_struct_list_place.result old new place (ZeroStructs c.in-ZeroStructs.count c.in-ZeroStructs.size) _ (structs_words_are c.in-ZeroStructs.count c.in-ZeroStructs.size) c.init_struct_list_place.ensures.object
          (subst (λ n. OnOk c.init_struct_list_place.result (LeadsToEnd (call_at place.segment place.word old new) n)) (structs_words_are c.in-ZeroStructs.count c.in-ZeroStructs.size)
          (leads_behind c.init_struct_list_place.result (call_at place.segment place.word old new) (1 + c.in-ZeroStructs.count * (c.in-ZeroStructs.size.data_words + c.in-ZeroStructs.size.pointers)) (omega arith) c.init_struct_list_place.ensures.object.behind))));
      same = search rules;
    }

pub returns-in-ZeroText : goal.returns-in-ZeroText
returns-in-ZeroText g c =
    let old = g.A.BuilderArena.view c.args.pointer.now.arena.now in
    let new = g.A.BuilderArena.view c.init_list_place-in-ZeroText.new.self.arena.now in
    let place = place_of c.args.pointer.now in
    record {
      done = rw c.discard_value-in-ZeroText.ensures (
          subst (λ o. IsDoneAt old new (AtPointer place) (Make o) (refusal_of c.init_list_place-in-ZeroText.result)) (sym c.in-ZeroText.is)
          (object_made c.init_list_place-in-ZeroText.result old new place (ZeroText c.in-ZeroText.size) _ (list_words_are 2 (c.in-ZeroText.size + 1)) c.init_list_place-in-ZeroText.ensures.object
          (subst (λ n. OnOk c.init_list_place-in-ZeroText.result (LeadsToEnd (call_at place.segment place.word old new) n)) (list_words_are 2 (c.in-ZeroText.size + 1)) c.init_list_place-in-ZeroText.ensures.at_end)));
      same = search rules;
    }

pub returns-in-Text : goal.returns-in-Text
returns-in-Text g c =
    let old = g.A.BuilderArena.view c.args.pointer.now.arena.now in
    let new = g.A.BuilderArena.view c.set_text.new.self.arena.now in
    let place = place_of c.args.pointer.now in
    record {
      done = subst (λ o. IsDoneAt old new (AtPointer place) (Make o) (refusal_of c.set_text.result)) (sym c.in-Text.is)
          (object_made c.set_text.result old new place (Text c.in-Text.bytes) _ (ap (words_for 2) (sym (length-append c.in-Text.bytes.now (0 ∷ [])))) c.set_text.ensures.object
          (subst (λ n. OnOk c.set_text.result (LeadsToEnd (call_at place.segment place.word old new) n)) (ap (words_for 2) (sym (length-append c.in-Text.bytes.now (0 ∷ []))))
          (leads_behind c.set_text.result (call_at place.segment place.word old new) (words_for 2 (length c.in-Text.bytes.now + 1)) (omega arith) c.set_text.ensures.object.behind)));
      same = search rules;
    }

pub returns-in-Data : goal.returns-in-Data
returns-in-Data g c =
    let old = g.A.BuilderArena.view c.args.pointer.now.arena.now in
    let new = g.A.BuilderArena.view c.set_data.new.self.arena.now in
    let place = place_of c.args.pointer.now in
    record {
      done = subst (λ o. IsDoneAt old new (AtPointer place) (Make o) (refusal_of c.set_data.result)) (sym c.in-Data.is)
          (object_made c.set_data.result old new place (Data c.in-Data.bytes) _ refl c.set_data.ensures.object c.set_data.ensures.at_end);
      same = search rules;
    }
