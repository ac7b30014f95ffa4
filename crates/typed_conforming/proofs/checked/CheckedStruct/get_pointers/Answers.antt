use Rattle.std.proofs.Common.{ap, sym, subst, arith, inl, inr}
use Rattle.std.proofs.Math.Logic.{∥∥₁_map}
use Rattle.capnp_format.specs.Tree.{Null}
use Rattle.capnp_pointers.specs.Reading.{source_start}
use Rattle.capnp_words.specs.declared.wire_pointer.ElementSize.TheVariants.{Pointer}
use Rattle.capnp_readers.specs.Values.{ShowsListOf, child_cost, struct_data}
use Rattle.typed_reading.specs.Values.{child}
use Rattle.typed_conforming.specs.Conforms.{Conforms}
use Rattle.typed_conforming.specs.Tables.{wanted}
use Rattle.typed_conforming.specs.Checked.{IsCheckedList}
use Rattle.typed_conforming.specs.declared.schema.Kind.TheVariants.{List}
use Rattle.typed_conforming.proofs.Checking.{affords_all, child_conforms, child_past, elements_conform, empty_list, kind_of, ok_from}
use Rattle.typed_conforming.proofs.checked.CheckedStruct.get_pointers.Goals as goal

pub invariant_of-result-then-index-self : goal.invariant_of-result-then-index-self
invariant_of-result-then-index-self g c =
    let checked : IsCheckedList g.A.ReaderArena c.args.self.now.table.now c.args.row c.new_default.result = record {
      list = Null;
      shows = empty_list g.A.ReaderArena c.new_default.result c.new_default.ensures.elements.1;
      conforms = tt;
    } in
    record { conforms = ∣ checked ∣₁ }

pub returns-then-index-self-clause-value : goal.returns-then-index-self-clause-value
returns-then-index-self-clause-value g c =
    λ t shows. subst (λ u. ShowsListOf g.A.ReaderArena c.new_default.result u) (sym (child_past c.args.index t (omega (arith, shows.pointers_are)))) (empty_list g.A.ReaderArena c.new_default.result c.new_default.ensures.elements.1)

pub unwrap-list-requires : goal.unwrap-list-requires
unwrap-list-requires g c =
    ok_from c.get_pointers.result c.args.self.now.conforms (λ x. elim x [
      | inr none ↦ absurd (omega (arith, none))
      | inl s ↦
          let T = c.args.self.now.table.now in
          let row = c.args.self.now.row in
          let h : Conforms T (wanted T row (struct_data s.struct) c.args.index) (child c.args.index s.struct) = child_conforms T row c.args.index s.struct s.shows.is_struct s.conforms in
          c.get_pointers.ensures.answered s.struct s.shows (kind_of T (List Pointer c.args.row) (child c.args.index s.struct) (rw (c.requires s.struct s.shows) at h))
          (affords_all (source_start g.A.ReaderArena c.args.self.now.reader.source).charging _ (child_cost g.A.ReaderArena s.shows c.args.index) (ap (λ m. m.left) c.new-unlimited.ensures))
    ])

pub invariant_of-result-3 : goal.invariant_of-result-3
invariant_of-result-3 g c = record {
  conforms = ∥∥₁_map {B = IsCheckedList g.A.ReaderArena c.args.self.now.table.now c.args.row c.unwrap-list.result.reader} c.args.self.now.conforms (λ x. elim x [
    | inr none ↦ absurd (omega (arith, none))
    | inl s ↦
        let T = c.args.self.now.table.now in
        let row = c.args.self.now.row in
        let i = c.args.index in
        let h : Conforms T (wanted T row (struct_data s.struct) i) (child i s.struct) = child_conforms T row i s.struct s.shows.is_struct s.conforms in
        let own : Conforms T (List Pointer c.args.row) (child i s.struct) = rw (c.requires s.struct s.shows) at h in
        record {
          list = child i s.struct;
          shows = rw c.unwrap-list.ensures at (c.get_pointers.ensures.value s.struct s.shows);
          conforms = elements_conform T Pointer c.args.row (child i s.struct) own;
        }
  ]);
}

pub returns-clause-value : goal.returns-clause-value
returns-clause-value g c = λ t shows. rw c.unwrap-list.ensures at (c.get_pointers.ensures.value t shows)
