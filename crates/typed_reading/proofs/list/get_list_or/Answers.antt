use Rattle.std.proofs.Common.{refl, ◌∙◌}
use Rattle.capnp_pointers.specs.Expected.{list_expected}
use Rattle.typed_reading.specs.Sections.{pointer_field}
use Rattle.typed_reading.specs.Values.{default_place}
use Rattle.typed_reading.proofs.Defaults.{ReadsDefault, at_default, not_null, not_zero, reads_default}
use Rattle.typed_reading.proofs.Outcomes.{default_read, default_unread, list_outcome, unread_default}
use Rattle.typed_reading.proofs.list.get_list_or.Goals as goal

pub from_default-requires : goal.from_default-requires
from_default-requires g c = c.requires

pub get_list-requires : goal.get_list-requires
get_list-requires g c = record { small = tt }

pub returns-in-Ok : goal.returns-in-Ok
returns-in-Ok g c =
    let made = c.in-Ok.ensures in
    let reads : ReadsDefault g.A.ReaderArena c.in-Ok.field c.args.default.now = reads_default g.A.ReaderArena c.in-Ok.field c.args.default made.source made.place made.nesting in
    let found = c.get_list.ensures in
    record {
      gets = record {
        value = λ t shows other. absurd (other ((c.is_null.ensures.value t shows).0 c.if-is_null.true));
        default = λ t d shows null is. found.value d (reads.value d is);
        answered = λ t shows other fits covers. absurd (other ((c.is_null.ensures.value t shows).0 c.if-is_null.true));
        default_answered = λ t d shows null is fits. found.answered d (reads.value d is).cost tt fits (reads.value d is).means (reads.free c.args.lim.now (reads.value d is).cost);
        exactly = default_read (list_expected c.args.expected) c.args.default.now (pointer_field g.A.ReaderArena c.args.reader.now c.args.index) c.args.lim.now (c.is_null.ensures.word.0 c.if-is_null.true) (made.exactly.0 refl)
            ∙ list_outcome g.A.ReaderArena c.args.expected c.in-Ok.field (default_place c.args.default.now) (at_default g.A.ReaderArena c.in-Ok.field c.args.default made.source made.place made.nesting) c.args.lim.now c.get_list.new.lim c.get_list.result found.exactly found.read found.refused;
      };
      fits = found.fits;
    }

pub returns-in-Err : goal.returns-in-Err
returns-in-Err g c = record {
  gets = record {
    value = λ t shows other. tt;
    default = λ t d shows null is. tt;
    answered = λ t shows other fits covers. absurd (other ((c.is_null.ensures.value t shows).0 c.if-is_null.true));
    default_answered = λ t d shows null is fits. c.in-Err.ensures.exactly.1 is.word;
    exactly = unread_default (list_expected c.args.expected) c.args.default.now (pointer_field g.A.ReaderArena c.args.reader.now c.args.index) c.args.lim.now c.in-Err.kind (c.is_null.ensures.word.0 c.if-is_null.true) (λ whole. absurd (let yes = c.in-Err.ensures.exactly.1 whole in cc yes)) c.in-Err.ensures.named;
  };
  fits = tt;
}

pub returns : goal.returns
returns g c =
    let found = c.get_list-2.ensures.gets in
    record {
      gets = record {
        value = λ t shows other. found.value t shows;
        default = λ t d shows null is. absurd (not_null (c.is_null.ensures.value t shows) c.if-is_null.false null);
        answered = λ t shows other fits covers. found.answered t shows fits covers;
        default_answered = λ t d shows null is fits. absurd (not_null (c.is_null.ensures.value t shows) c.if-is_null.false null);
        exactly = default_unread (list_expected c.args.expected) c.args.default.now (pointer_field g.A.ReaderArena c.args.reader.now c.args.index) c.args.lim.now (not_zero c.is_null.ensures.word c.if-is_null.false) ∙ found.exactly;
      };
      fits = c.get_list-2.ensures.fits;
    }
