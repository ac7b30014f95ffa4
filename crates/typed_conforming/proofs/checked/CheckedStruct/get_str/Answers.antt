use Rattle.std.proofs.Common.{◌≡◌, ap, sym, ◌∙◌, arith, inl, inr}
use Rattle.std.proofs.lemmas.Str.{IsUtf8-from_is_utf8}
use Rattle.std.specs.Str.{IsUtf8, IsValidUpTo, is_utf8, valid_up_to}
use Rattle.capnp_pointers.specs.Reading.{source_start}
use Rattle.capnp_readers.specs.Values.{child_cost, text_bytes, struct_data}
use Rattle.typed_reading.specs.Values.{child}
use Rattle.typed_conforming.specs.Conforms.{Conforms, IsOfKind}
use Rattle.typed_conforming.specs.Tables.{wanted}
use Rattle.typed_conforming.specs.declared.schema.Kind.TheVariants.{Utf8}
use Rattle.typed_conforming.proofs.Checking.{affords_all, child_conforms, child_past, kind_of, ok_from, ok_unless}
use Rattle.typed_conforming.proofs.checked.CheckedStruct.get_str.Goals as goal

pub unwrap-bytes-requires : goal.unwrap-bytes-requires
unwrap-bytes-requires g c =
    ok_from c.get_text.result c.args.self.now.conforms (λ x. elim x [
      | inr none ↦ absurd (omega (arith, none))
      | inl s ↦
          let T = c.args.self.now.table.now in
          let row = c.args.self.now.row in
          let h : Conforms T (wanted T row (struct_data s.struct) c.args.index) (child c.args.index s.struct) = child_conforms T row c.args.index s.struct s.shows.is_struct s.conforms in
          c.get_text.ensures.answered s.struct s.shows (kind_of T Utf8 (child c.args.index s.struct) (rw (c.requires s.struct s.shows) at h)).0
          (affords_all (source_start g.A.ReaderArena c.args.self.now.reader.source).charging _ (child_cost g.A.ReaderArena s.shows c.args.index) (ap (λ m. m.left) c.new-unlimited.ensures))
    ])

pub unwrap-requires : goal.unwrap-requires
unwrap-requires g c =
    ok_from c.from_utf8.result c.args.self.now.conforms (λ x. elim x [
      | inr none ↦ absurd (omega (arith, none))
      | inl s ↦
          let T = c.args.self.now.table.now in
          let row = c.args.self.now.row in
          let bytes = c.unwrap-bytes.result.now in
          let h : Conforms T (wanted T row (struct_data s.struct) c.args.index) (child c.args.index s.struct) = child_conforms T row c.args.index s.struct s.shows.is_struct s.conforms in
          let own : IsOfKind Utf8 (child c.args.index s.struct) = kind_of T Utf8 (child c.args.index s.struct) (rw (c.requires s.struct s.shows) at h) in
          let is : bytes ≡ text_bytes (child c.args.index s.struct) = rw c.unwrap-bytes.ensures at (c.get_text.ensures.value s.struct s.shows) in
          ok_unless (λ s. (s.now ≡ bytes) × IsUtf8 bytes) (λ e. (IsUtf8 bytes → ⊥) × IsValidUpTo bytes (valid_up_to e)) c.from_utf8.result c.from_utf8.ensures.cases (λ e no. no.0 (IsUtf8-from_is_utf8 bytes (ap is_utf8 is ∙ own.1)))
    ])

pub returns-then-index-self : goal.returns-then-index-self
returns-then-index-self g c = λ t shows. sym (ap text_bytes (child_past c.args.index t (omega (arith, shows.pointers_are))))

pub returns : goal.returns
returns g c = λ t shows. (rw c.unwrap.ensures at c.from_utf8.ensures.cases).0 ∙ (rw c.unwrap-bytes.ensures at (c.get_text.ensures.value t shows))
