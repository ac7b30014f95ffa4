-- From an object's children to the object, copied or refused; and the refusals at the place itself.
use Rattle.std.proofs.Common.{◌≡◌, ℕ, pred, ◌+◌, ◌*◌, ◌≤◌, refl, sym, ap, ap₂, ◌∙◌, subst, arith}
use Rattle.capnp_format.specs.Word.{kind, offset_bits, data_words, pointer_count, element_size, list_count}
use Rattle.capnp_format.specs.Numbers.{words_for, unpacked}
use Rattle.capnp_format.specs.Segments.{Segments, words_at, Target}
use Rattle.capnp_format.specs.Tree.{Null, Struct, Flat, Pointers, Structs, Trees, Elements, count, element_count}
use Rattle.capnp_format.specs.Means.{Claims, count_cost}
use Rattle.capnp_words.specs.Meter.{Meter}
use Rattle.capnp_pointers.specs.Demands.{tag, own_charge}
use Rattle.capnp_pointers.specs.Outcomes.{Reads, ReadsAll, ReadsElements, Entered}
use Rattle.capnp_pointers.specs.Faults.{child_at}
use Rattle.capnp_pointers.specs.Reading.{Reading, word_of, tag_size}
use Rattle.capnp_pointers.specs.Wanted.{Form}
use Rattle.capnp_pointers.specs.declared.object.Purpose.TheVariants.{Value}
use Rattle.capnp_pointers.proofs.OneObject.PartsMeant.{claim_struct, claim_list, claim_flat, extra_struct, extra_list, extra_flat}
use Rattle.capnp_format.proofs.Slices.{length_words}
use Rattle.capnp_format.proofs.Digits.{length-digits}
use Rattle.capnp_format.proofs.Meanings.{struct_meaning, flat_meaning, pointers_meaning}
use Rattle.capnp_pointers.proofs.Budget.PaidAndLeft.{after_none, affords_none, paid_both, paid_own, paid_all, paid_elements}
use Rattle.capnp_pointers.proofs.Following.LeadsWhereFollowed.{entered_leads}

unfoldable pub read_null : {form : Form} {r : Reading} (m : Meter) → word_of r ≡ 0 → Reads form r m m Null
read_null {form} {r} m z = record { cost = 0; means = (z, refl); takes = λ e. refl; covers = affords_none r.charging m; spent = sym (after_none r.charging m) }

pub own_struct : (S : Segments) (a : Target) → kind a.word ≡ 0 → own_charge Value S a ≡ a.pads + (data_words a.word + pointer_count a.word)
own_struct S a z = omega (arith, claim_struct a.word z, extra_struct Value S a z)

pub own_flat : (S : Segments) (a : Target) → kind a.word ≡ 1 → element_size a.word ≤ 5 → own_charge Value S a ≡ a.pads + words_for (element_size a.word) (list_count a.word) + count_cost (element_size a.word) (list_count a.word)
own_flat S a z small =
    ap₂ (λ i j. a.pads + i + j) (claim_list a.word (element_size a.word) z refl ∙ claim_flat (element_size a.word) (list_count a.word) small) (extra_list Value S a (element_size a.word) z refl ∙ extra_flat Value S a (element_size a.word) small)

pub own_pointers : (S : Segments) (a : Target) → kind a.word ≡ 1 → element_size a.word ≡ 6 → own_charge Value S a ≡ a.pads + list_count a.word
own_pointers S a z six = omega (arith, claim_list a.word 6 z six, extra_list Value S a 6 z six)

pub own_structs : (S : Segments) (a : Target) → kind a.word ≡ 1 → element_size a.word ≡ 7 → own_charge Value S a ≡ a.pads + (list_count a.word + 1) + count_cost (data_words (tag S a) + pointer_count (tag S a)) (offset_bits (tag S a))
own_structs S a z seven = ap₂ (λ i j. a.pads + i + j) (claim_list a.word 7 z seven) (extra_list Value S a 7 z seven)

unfoldable pub read_struct : {form : Form} {r : Reading} {m m' m'' : Meter} {a : Target} {ts : Trees} → Entered Value r m m' a → kind a.word ≡ 0 → count ts ≡ pointer_count a.word →
    ReadsAll form (child_at r a (pred r.levels) (a.start + data_words a.word)) m' m'' ts → Reads form r m m'' (Struct (words_at r.segments a.segment a.start (data_words a.word)) ts)
read_struct {form} {r} {m} {m'} {m''} {a} {ts} o z len all =
    let S : Segments = r.segments in
    let d : ℕ = data_words a.word in
    let q : ℕ = pointer_count a.word in
    let inside : Claims S a (d + q) = omega (arith, o.meets.claims, claim_struct a.word z) in
    let paid = paid_both (paid_own o) (paid_all all) in
    record {
      cost = own_charge Value S a + all.cost;
      means =
          struct_meaning S r.levels r.segment r.at a d q (words_at S a.segment a.start d) ts all.cost _ o.meets.levels (record { leads_to = entered_leads o; is_struct = z; data_of = refl; pointers = refl })
          (length_words S a.segment a.start d (omega (arith, inside))) len inside refl all.means (ap (λ i. i + all.cost) (own_struct S a z));
      takes = all.takes;
      covers = paid.covers;
      spent = paid.spent;
    }

unfoldable pub read_flat : {form : Form} {r : Reading} {m m' : Meter} {a : Target} → Entered Value r m m' a → kind a.word ≡ 1 → element_size a.word ≤ 5 →
    Reads form r m m' (Flat (element_size a.word) (unpacked (element_size a.word) (list_count a.word) (words_at r.segments a.segment a.start (words_for (element_size a.word) (list_count a.word)))))
read_flat {form} {r} {m} {m'} {a} o z small =
    let S : Segments = r.segments in
    let size : ℕ = element_size a.word in
    record {
      cost = own_charge Value S a;
      means =
          flat_meaning S r.levels r.segment r.at a size (list_count a.word) _ _ o.meets.levels small (record { leads_to = entered_leads o; is_list = z; is_size = refl; counts = refl }) (length-digits _ (list_count a.word) _)
          (subst (Claims S a) (claim_list a.word size z refl ∙ claim_flat size (list_count a.word) small) o.meets.claims) refl (own_flat S a z small);
      takes = λ e. refl;
      covers = o.covers;
      spent = o.spent;
    }

unfoldable pub read_pointers : {form : Form} {r : Reading} {m m' m'' : Meter} {a : Target} {ts : Trees} → Entered Value r m m' a → kind a.word ≡ 1 → element_size a.word ≡ 6 → count ts ≡ list_count a.word →
    ReadsAll form (child_at r a (pred r.levels) a.start) m' m'' ts → Reads form r m m'' (Pointers ts)
read_pointers {form} {r} {m} {m'} {m''} {a} {ts} o z six len all =
    let S : Segments = r.segments in
    let paid = paid_both (paid_own o) (paid_all all) in
    record {
      cost = own_charge Value S a + all.cost;
      means =
          pointers_meaning S r.levels r.segment r.at a (list_count a.word) ts all.cost _ o.meets.levels (record { leads_to = entered_leads o; is_list = z; is_size = six; counts = refl }) len
          (omega (arith, o.meets.claims, claim_list a.word 6 z six)) all.means (ap (λ i. i + all.cost) (own_pointers S a z six));
      takes = all.takes;
      covers = paid.covers;
      spent = paid.spent;
    }

unfoldable pub read_structs : {form : Form} {r : Reading} {m m' m'' : Meter} {a : Target} {es : Elements} → Entered Value r m m' a → kind a.word ≡ 1 → element_size a.word ≡ 7 → element_count es ≡ offset_bits (tag r.segments a) →
    ReadsElements form (child_at r a (pred r.levels) (a.start + 1)) (tag_size r.segments a) m' m'' es → Reads form r m m'' (Structs (data_words (tag r.segments a)) (pointer_count (tag r.segments a)) es)
read_structs {form} {r} {m} {m'} {m''} {a} {es} o z seven len all =
    let S : Segments = r.segments in
    let d : ℕ = data_words (tag S a) in
    let q : ℕ = pointer_count (tag S a) in
    let N : ℕ = list_count a.word in
    let paid = paid_both (paid_own o) (paid_elements all) in
    let t = o.meets.tagged (z, seven) in
    record {
      cost = own_charge Value S a + all.cost;
      means = (
        a,
        N,
        all.cost,
        o.meets.levels,
        record { leads_to = entered_leads o; is_list = z; is_size = seven; counts = refl },
        omega (arith, o.meets.claims, claim_list a.word 7 z seven),
        record { is_struct = t.0; counts = sym len; data_of = refl; pointers = refl },
        subst (λ i. i * (d + q) ≤ N) (sym len) t.1,
        all.means,
        ap (λ i. i + all.cost) (own_structs S a z seven) ∙ ap (λ i. a.pads + (N + 1) + count_cost (d + q) i + all.cost) (sym len),
      );
      takes = all.takes;
      covers = paid.covers;
      spent = paid.spent;
    }
