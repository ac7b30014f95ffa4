-- What a place means, by the widths that its words state. These lemmas take each part of a meaning
-- by itself, because other crates cite them in this form.
use Rattle.std.proofs.Common.{◌≡◌, ℕ, pred, ◌+◌, ◌<◌, ◌≤◌, List, length, sym, ◌∙◌, arith}
use Rattle.capnp_format.specs.Numbers.{words_for, unpacked}
use Rattle.capnp_format.specs.Segments.{Segments, words_at, Target}
use Rattle.capnp_format.specs.Tree.{Struct, Flat, Pointers, Trees, count}
use Rattle.capnp_format.specs.Means.{Claims, StructAt, ListAt, count_cost, Means, MeansAll}

pub struct_meaning : (S : Segments) (n s p : ℕ) (a : Target) (d q : ℕ) (ws : List ℕ) (ts : Trees) (k c : ℕ) → 0 < n → StructAt S s p a d q → length ws ≡ d → count ts ≡ q → Claims S a (d + q) →
    words_at S a.segment a.start d ≡ ws → MeansAll S (pred n) a.segment (a.start + d) ts k → c ≡ a.pads + (d + q) + k → Means S n s p (Struct ws ts) c
struct_meaning S n s p a d q ws ts k c some o long len claim e all g =
    (a, k, some, record { leads_to = o.leads_to; is_struct = o.is_struct; data_of = o.data_of ∙ sym long; pointers = o.pointers ∙ sym len }, omega arith, rw long e, rw long all, omega arith)

pub flat_meaning : (S : Segments) (n s p : ℕ) (a : Target) (size m : ℕ) (ns : List ℕ) (c : ℕ) → 0 < n → size ≤ 5 → ListAt S s p a size m → length ns ≡ m → Claims S a (words_for size m) →
    ns ≡ unpacked size m (words_at S a.segment a.start (words_for size m)) → c ≡ a.pads + words_for size m + count_cost size m → Means S n s p (Flat size ns) c
flat_meaning S n s p a size m ns c some small o long claim e g =
    (a, some, small, record { leads_to = o.leads_to; is_list = o.is_list; is_size = o.is_size; counts = o.counts ∙ sym long }, rw long claim, rw long e, rw long g)

pub pointers_meaning : (S : Segments) (n s p : ℕ) (a : Target) (m : ℕ) (ts : Trees) (k c : ℕ) → 0 < n → ListAt S s p a 6 m → count ts ≡ m → Claims S a m → MeansAll S (pred n) a.segment a.start ts k →
    c ≡ a.pads + m + k → Means S n s p (Pointers ts) c
pointers_meaning S n s p a m ts k c some o len claim all g =
    (a, k, some, record { leads_to = o.leads_to; is_list = o.is_list; is_size = o.is_size; counts = o.counts ∙ sym len }, omega arith, all, omega arith)
