use Rattle.std.proofs.Common.{ap, sym, subst, arith, inl, inr}
use Rattle.std.proofs.Math.Logic.{∥∥₁_map}
use Rattle.capnp_pointers.specs.Reading.{source_start}
use Rattle.capnp_readers.specs.Values.{ShowsStructOf, child_cost, struct_data}
use Rattle.typed_reading.specs.Values.{child}
use Rattle.typed_conforming.specs.Conforms.{Conforms}
use Rattle.typed_conforming.specs.Tables.{wanted}
use Rattle.typed_conforming.specs.Checked.{IsChecked}
use Rattle.typed_conforming.specs.declared.schema.Kind.TheVariants.{Struct}
use Rattle.typed_conforming.proofs.Checking.{affords_all, child_conforms, child_past, children_conform, empty_shows, kind_of, ok_from}
use Rattle.typed_conforming.proofs.checked.CheckedStruct.get_struct.Goals as goal

pub unwrap-reader-requires : goal.unwrap-reader-requires
unwrap-reader-requires g c =
    ok_from c.get_struct.result c.args.self.now.conforms (λ x. elim x [
      | inr none ↦ absurd (omega (arith, none))
      | inl s ↦
          let T = c.args.self.now.table.now in
          let row = c.args.self.now.row in
          let h : Conforms T (wanted T row (struct_data s.struct) c.args.index) (child c.args.index s.struct) = child_conforms T row c.args.index s.struct s.shows.is_struct s.conforms in
          c.get_struct.ensures.answered s.struct s.shows (kind_of T (Struct c.args.row) (child c.args.index s.struct) (rw (c.requires s.struct s.shows) at h))
          (affords_all (source_start g.A.ReaderArena c.args.self.now.reader.source).charging _ (child_cost g.A.ReaderArena s.shows c.args.index) (ap (λ m. m.left) c.new-unlimited.ensures))
    ])

pub returns-then-index-self-clause-value : goal.returns-then-index-self-clause-value
returns-then-index-self-clause-value g c =
    λ t shows. subst (λ u. ShowsStructOf g.A.ReaderArena c.new_default.result u) (sym (child_past c.args.index t (omega (arith, shows.pointers_are)))) (empty_shows g.A.ReaderArena c.new_default.result c.new_default.ensures.sections.0 c.new_default.ensures.sections.1)

pub invariant_of-result-2 : goal.invariant_of-result-2
invariant_of-result-2 g c = record {
  conforms = ∥∥₁_map {B = IsChecked g.A.ReaderArena c.args.self.now.table.now c.args.row c.unwrap-reader.result} c.args.self.now.conforms (λ x. elim x [
    | inr none ↦ absurd (omega (arith, none))
    | inl s ↦
        let T = c.args.self.now.table.now in
        let row = c.args.self.now.row in
        let i = c.args.index in
        let h : Conforms T (wanted T row (struct_data s.struct) i) (child i s.struct) = child_conforms T row i s.struct s.shows.is_struct s.conforms in
        let own : Conforms T (Struct c.args.row) (child i s.struct) = rw (c.requires s.struct s.shows) at h in
        inl (record {
          struct = child i s.struct;
          shows = rw c.unwrap-reader.ensures at (c.get_struct.ensures.value s.struct s.shows);
          conforms = children_conform T c.args.row (child i s.struct) own;
        })
  ]);
}

pub returns-clause-value : goal.returns-clause-value
returns-clause-value g c = λ t shows. rw c.unwrap-reader.ensures at (c.get_struct.ensures.value t shows)
