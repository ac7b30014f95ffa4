use Rattle.std.proofs.Common.{ap, sym, arith, inl, inr}
use Rattle.capnp_pointers.specs.Reading.{source_start}
use Rattle.capnp_readers.specs.Values.{child_cost, text_bytes, struct_data}
use Rattle.typed_reading.specs.Values.{child}
use Rattle.typed_conforming.specs.Conforms.{Conforms}
use Rattle.typed_conforming.specs.Tables.{wanted}
use Rattle.typed_conforming.proofs.Checking.{affords_all, child_conforms, child_past, ok_from, text_fits}
use Rattle.typed_conforming.proofs.checked.CheckedStruct.get_text.Goals as goal

pub unwrap-requires : goal.unwrap-requires
unwrap-requires g c =
    ok_from c.get_text.result c.args.self.now.conforms (λ x. elim x [
      | inr none ↦ absurd (omega (arith, none))
      | inl s ↦
          let T = c.args.self.now.table.now in
          let row = c.args.self.now.row in
          let h : Conforms T (wanted T row (struct_data s.struct) c.args.index) (child c.args.index s.struct) = child_conforms T row c.args.index s.struct s.shows.is_struct s.conforms in
          c.get_text.ensures.answered s.struct s.shows (text_fits T (wanted T row (struct_data s.struct) c.args.index) (child c.args.index s.struct) (c.requires s.struct s.shows) h)
          (affords_all (source_start g.A.ReaderArena c.args.self.now.reader.source).charging _ (child_cost g.A.ReaderArena s.shows c.args.index) (ap (λ m. m.left) c.new-unlimited.ensures))
    ])

pub returns-then-index-self : goal.returns-then-index-self
returns-then-index-self g c = λ t shows. sym (ap text_bytes (child_past c.args.index t (omega (arith, shows.pointers_are))))

pub returns : goal.returns
returns g c = λ t shows. rw c.unwrap.ensures at (c.get_text.ensures.value t shows)
