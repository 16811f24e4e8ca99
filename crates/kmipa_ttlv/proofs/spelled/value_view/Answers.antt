use Rattle.std.proofs.Common.{rules, arith, ◌≡◌, ℕ, ℤ, ◌==◌, List, ap, ◌∙◌}
use Rattle.std.specs.Int.{w32, w64, cast_signed, cast_unsigned}
use Rattle.byteorder.specs.Endian.{big_number}
use Rattle.kmipa_ttlv.specs.Tree.{scalar, integer, long_integer, enumeration, boolean, interval, date_time, date_time_extended, text}
use Rattle.kmipa_ttlv.specs.Spelled.{scalar_at}
use Rattle.kmipa_ttlv.specs.declared.head.Kind.TheVariants.{Integer, LongInteger, BigInteger, Enumeration, Boolean, Text, DateTime, Interval, DateTimeExtended}
use Rattle.kmipa_ttlv.proofs.SpelledLemmas.{number_item, refused_number, plain_number}
use Rattle.kmipa_ttlv.proofs.spelled.value_view.Goals as goal
use Rattle.kmipa_ttlv.proofs.spelled.value_view.Goals.{in_default-via-in-2+else-len-eq4, in_default-via-in-3+else-len-eq8, in_default-via-in-4+then-len-gt0+else-len-eq0, in_default-via-in-4+else-len-gt0, in_default-via-in-5+else-len-eq4-2, in_default-via-in-6+else-len-eq8-2, in_default-via-in-9+else-len-eq8-3, in_default-via-in-10+else-len-eq4-3, in_default-via-in-11+else-len-eq8-4, in_default-via-in_default-1}

pub returns-in-7 : goal.returns-in-7
unfolding scalar_at
returns-in-7 c = λ tag. ap (λ (bs : List ℕ). scalar tag (text bs)) c.text_of.ensures ∙ number_item Text c.args.number tag c.args.value.now c.in-7.is (λ other. search rules)

pub returns-in-2 : goal.returns-in-2
unfolding scalar_at
returns-in-2 c = λ tag.
    let e : cast_signed w32 (cast_unsigned w32 c.read_i32.result) ≡ cast_signed w32 (big_number 4 c.args.value.now) = search rules in
    ap (λ (z : ℤ). scalar tag (integer z)) e ∙ number_item Integer c.args.number tag c.args.value.now c.in-2.is (λ other. search rules)

pub returns-in-5 : goal.returns-in-5
unfolding scalar_at
returns-in-5 c = λ tag. ap (λ (n : ℕ). scalar tag (enumeration n)) c.read_u32.ensures ∙ number_item Enumeration c.args.number tag c.args.value.now c.in-5.is (λ other. search rules)

pub returns-in-10 : goal.returns-in-10
unfolding scalar_at
returns-in-10 c = λ tag. ap (λ (n : ℕ). scalar tag (interval n)) c.read_u32-in-10.ensures ∙ number_item Interval c.args.number tag c.args.value.now c.in-10.is (λ other. search rules)

pub returns-in-3 : goal.returns-in-3
unfolding scalar_at
returns-in-3 c = λ tag.
    let e : cast_signed w64 (cast_unsigned w64 c.read_i64.result) ≡ cast_signed w64 (big_number 8 c.args.value.now) = search rules in
    ap (λ (z : ℤ). scalar tag (long_integer z)) e ∙ number_item LongInteger c.args.number tag c.args.value.now c.in-3.is (λ other. search rules)

pub returns-in-6 : goal.returns-in-6
unfolding scalar_at
returns-in-6 c = λ tag. ap (λ (n : ℕ). scalar tag (boolean (n == 1))) c.read_u64.ensures ∙ number_item Boolean c.args.number tag c.args.value.now c.in-6.is (λ other. search rules)

pub returns-in-9 : goal.returns-in-9
unfolding scalar_at
returns-in-9 c = λ tag.
    let e : cast_signed w64 (cast_unsigned w64 c.read_i64-in-9.result) ≡ cast_signed w64 (big_number 8 c.args.value.now) = search rules in
    ap (λ (z : ℤ). scalar tag (date_time z)) e ∙ number_item DateTime c.args.number tag c.args.value.now c.in-9.is (λ other. search rules)

pub returns-in-11 : goal.returns-in-11
unfolding scalar_at
returns-in-11 c = λ tag.
    let e : cast_signed w64 (cast_unsigned w64 c.read_i64-in-11.result) ≡ cast_signed w64 (big_number 8 c.args.value.now) = search rules in
    ap (λ (z : ℤ). scalar tag (date_time_extended z)) e ∙ number_item DateTimeExtended c.args.number tag c.args.value.now c.in-11.is (λ other. search rules)

pub returns-in-4 : goal.returns-in-4
unfolding scalar_at
returns-in-4 c = λ tag. number_item BigInteger c.args.number tag c.args.value.now c.in-4.is (λ other. search rules)

pub returns-in_default : goal.returns-in_default
unfolding scalar_at
returns-in_default c = λ tag.
    let n = c.args.number in
    let value = c.args.value.now in
    elim c.in_default.branch [
      | in_default-via-in-2+else-len-eq4 w ↦ refused_number Integer n tag value w.in-2.is (λ e. absurd cc) (search rules)
      | in_default-via-in-3+else-len-eq8 w ↦ refused_number LongInteger n tag value w.in-3.is (λ e. absurd cc) (search rules)
      | in_default-via-in-4+then-len-gt0+else-len-eq0 w ↦ refused_number BigInteger n tag value w.in-4.is (λ e. absurd cc) (search rules)
      | in_default-via-in-4+else-len-gt0 w ↦ refused_number BigInteger n tag value w.in-4.is (λ e. absurd cc) (search rules)
      | in_default-via-in-5+else-len-eq4-2 w ↦ refused_number Enumeration n tag value w.in-5.is (λ e. absurd cc) (search rules)
      | in_default-via-in-6+else-len-eq8-2 w ↦ refused_number Boolean n tag value w.in-6.is (λ e. absurd cc) (search rules)
      | in_default-via-in-9+else-len-eq8-3 w ↦ refused_number DateTime n tag value w.in-9.is (λ e. absurd cc) (search rules)
      | in_default-via-in-10+else-len-eq4-3 w ↦ refused_number Interval n tag value w.in-10.is (λ e. absurd cc) (search rules)
      | in_default-via-in-11+else-len-eq8-4 w ↦ refused_number DateTimeExtended n tag value w.in-11.is (λ e. absurd cc) (search rules)
      | in_default-via-in_default-1 w ↦ plain_number n tag value (λ p q. omega (arith, p, q))
    ]
