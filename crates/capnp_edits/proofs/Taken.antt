-- Words that an operation takes, and by which calls.
use Rattle.std.proofs.Common.{◌≡◌, ℕ, true, ◌+◌, ◌*◌, length, Option, Some, None, Result, Ok, Err, IfErr, OnErr, ap, ◌∙◌}
use Rattle.std.proofs.lemmas.List.{length-set}
use Rattle.capnp_words.specs.declared.error.ErrorKind.{ErrorKind}
use Rattle.capnp_arena_traits.proofs.WordsOver.{lengths_kept}
use Rattle.capnp_format.specs.Segments.{Segments, segment}
use Rattle.capnp_allocation.specs.Fields.{with_field}
use Rattle.capnp_format.specs.Fields.{put_field}
use Rattle.capnp_in_place.specs.declared.existing.ExistingBytes.{ExistingBytes}
use Rattle.capnp_in_place.specs.declared.existing.ExistingList.{ExistingList}
use Rattle.capnp_in_place.specs.declared.existing.ExistingStruct.{ExistingStruct}
use Rattle.capnp_copies.specs.Changes.{CopyCall}
use Rattle.capnp_copies.specs.Growth.{TakesAtMost}
use Rattle.capnp_copies.specs.Originals.{Original}
use Rattle.capnp_builders.specs.Places.{Field}
use Rattle.capnp_edits.specs.Edits.{is_of_path, refusal_of, are_written, are_outside, PutsBits, PutsElement, element_put, element_past, no_list, list_denied, PutsByte, byte_put, byte_past, no_bytes_there, bytes_denied}
use Rattle.capnp_edits.specs.declared.edit.tasks.Number.{Number}
use Rattle.capnp_edits.specs.declared.edit.path.PathEnd.{PathEnd}
use Rattle.capnp_edits.specs.declared.edit.tasks.Part.{Part}
use Rattle.capnp_edits.specs.declared.edit.tasks.StructChange.TheVariants.{Bits}
use Rattle.capnp_edits.specs.declared.edit.tasks.Task.TheVariants.{InStruct, Write}
use Rattle.capnp_edits.specs.Steps.{EndsAt, result_of}
use Rattle.capnp_arena_traits.specs.View.{View, KeepsLimits}
use Rattle.capnp_in_place.specs.Anew.{OnlyWrites}
use Rattle.capnp_words.specs.declared.wire_pointer.ElementSize.TheVariants.{Byte}

-- Every segment has as many words as before.
abbrev pub KeepsLengths : Segments → Segments → Type 0
KeepsLengths S R = (length R ≡ length S) × ((v : ℕ) → length (segment R v) ≡ length (segment S v))

pub writes : (old new : View) → KeepsLimits old new → KeepsLengths old.words new.words → OnlyWrites old new
writes old new limits lengths = record { limits = limits; segments = lengths.0; words = lengths.1 }

-- How a task ends that makes nothing and reads no other message.
abbrev pub EndsPlainly : View → View → Option ErrorKind → Type 0
EndsPlainly old new None = OnlyWrites old new
EndsPlainly old new (Some k) = (is_of_path k ≡ true) × (new ≡ old)

pub plain_end : {A : Type 0} (result : Result A ErrorKind) (old new : View) → OnlyWrites old new → IfErr result (λ k. is_of_path k ≡ true) → OnErr result (new ≡ old) → EndsPlainly old new (refusal_of result)
plain_end (Ok x) old new only named kept = only
plain_end (Err k) old new only named kept = (named, kept)

-- such tasks: a number or a byte, and bits of a struct
pub part_ends : (old new : View) (part : Part) (r : Option ErrorKind) (there : PathEnd) → EndsPlainly old new r → EndsAt old new (Write part) r there
part_ends old new part None there h = h
part_ends old new part (Some k) there h = h

pub bits_end : (old new : View) (n : Number) (r : Option ErrorKind) (there : PathEnd) → EndsPlainly old new r → EndsAt old new (InStruct (Bits n)) r there
bits_end old new n None there h = h
bits_end old new n (Some k) there h = h

pub bits_ended : (old new : View) (n : Number) (r : Option ErrorKind) (there : PathEnd) → EndsAt old new (InStruct (Bits n)) r there → EndsPlainly old new r
bits_ended old new n None there h = h
bits_ended old new n (Some k) there h = h

-- writing bits takes no words
same_lengths : (S R : Segments) → R ≡ S → KeepsLengths S R
same_lengths S R e = (ap length e, λ v. ap (λ Q. length (segment Q v)) e)

field_lengths : (S R : Segments) (s b w x : ℕ) → R ≡ with_field S s b w x → KeepsLengths S R
field_lengths S R s b w x e =
    (ap length e ∙ length-set S s _, λ v. ap (λ Q. length (segment Q v)) e ∙ lengths_kept S s (put_field (segment S s) b w x) (length-set (segment S s) _ _) v)

pub bits_lengths : (S R : Segments) (e : ExistingStruct) (f : Field) (r : Option ErrorKind) → PutsBits S R e f r → KeepsLengths S R
bits_lengths S R e f r (are_written starts ends done written) = field_lengths S R _ _ _ _ written
bits_lengths S R e f r (are_outside past named same) = same_lengths S R same

pub element_lengths : (S R : Segments) (looked : Result (Option ExistingList) ErrorKind) (n : Number) (r : Option ErrorKind) → PutsElement S R looked n r → KeepsLengths S R
element_lengths S R looked n r (element_put l is less done written) = field_lengths S R _ _ _ _ written
element_lengths S R looked n r (element_past l is past named same) = same_lengths S R same
element_lengths S R looked n r (no_list none named same) = same_lengths S R same
element_lengths S R looked n r (list_denied k is named same) = same_lengths S R same

pub byte_lengths : (S R : Segments) (looked : Result (Option ExistingBytes) ErrorKind) (i v : ℕ) (r : Option ErrorKind) → PutsByte S R looked (record { size = Byte; index = i; value = v }) r → KeepsLengths S R
byte_lengths S R looked i v r (byte_put b is less done written) = field_lengths S R b.segment (8 * (8 * b.start + i)) 8 v written
byte_lengths S R looked i v r (byte_past b is past named same) = same_lengths S R same
byte_lengths S R looked i v r (no_bytes_there none named same) = same_lengths S R same
byte_lengths S R looked i v r (bytes_denied k is named same) = same_lengths S R same

-- what a call takes, by its outcome
pub copy_taken : {A V : Type 0} (result : Result A ErrorKind) (o : Original V) (c : CopyCall) → TakesAtMost result o c → TakesAtMost (result_of (refusal_of result)) o c
copy_taken (Ok x) o c taken = taken
copy_taken (Err k) o c taken = taken
