-- The words of a line: numbers in their one spelling.
use Rattle.std.proofs.Common.{◌≡◌, ◌≢◌, ℕ, zero, suc, ℤ, pos, negsuc, ◌+◌, ◌*◌, ◌^◌, ◌<◌, ◌≤◌, Option, Some, None, IfSome, IfNone, List, [], ◌∷◌, length, take, get_or, sym, ap, subst, ◌∙◌, arith}
use Rattle.std.specs.Char.{digit_value}
use Rattle.std.specs.Int.{w64}
use Rattle.std.specs.Prelude.{FitsSigned}
use Rattle.std.specs.Fmt.{decimal, signed_decimal}
use Rattle.std.specs.Str.Parse.{AllDigits, digits_value}
use Rattle.std.proofs.lemmas.Int.Digits.{digits_more, digits_value_more}
use Rattle.std.proofs.lemmas.Str.Parse.{IsNumeralModel, numerals_by_value, tells_digits, digit_from_value, digits_value-take-le}
use Rattle.std.proofs.lemmas.Fmt.{digits_decimal, digits_value-decimal, decimal-digits_value, decimal_nonempty, first_decimal, decimal_digit}
use Rattle.feed_text.specs.Words.{IsPlain}

pub numerals : IsNumeralModel (AllDigits 10) (digits_value 10)
numerals = numerals_by_value (AllDigits 10) tells_digits

digit_at : (word : List ℕ) (i : ℕ) → i < length word → AllDigits 10 word → digit_value (get_or word i 0) < 10
digit_at [] i short all = absurd (omega arith)
digit_at (b ∷ word) zero short all = all.0
digit_at (b ∷ word) (suc i) short all = digit_at word i (omega arith) all.1

-- a byte that is no digit
pub digits_stop : (word : List ℕ) (i : ℕ) → i < length word → 10 ≤ digit_value (get_or word i 0) → AllDigits 10 word → 2 ^ 64 ≤ digits_value 10 word
digits_stop word i short stops all = absurd (omega (arith, digit_at word i short all))

-- a front that writes too much
pub digits_full : (word : List ℕ) (i v : ℕ) → i < length word → v ≡ digits_value 10 (take i word) → 2 ^ 64 ≤ v * 10 + digit_value (get_or word i 0) → 2 ^ 64 ≤ digits_value 10 word
digits_full word i v short was full = omega (arith, digits_value_more 10 word i short, digits_value-take-le 10 word (i + 1) (omega arith))

pub number_more : (word : List ℕ) (i v d n : ℕ) → i < length word → AllDigits 10 (take i word) → v ≡ digits_value 10 (take i word) → d ≡ digit_value (get_or word i 0) → d < 10 → n ≡ v * 10 + d
    → AllDigits 10 (take (i + 1) word) × (n ≡ digits_value 10 (take (i + 1) word))
number_more word i v d n short all was is low next = (digits_more 10 word i short all (omega arith), omega (arith, digits_value_more 10 word i short))

-- a number's text is plain
plain_decimal : (n : ℕ) → n < 2 ^ 64 → get_or (decimal n) 0 0 ≡ 48 → length (decimal n) ≡ 1
plain_decimal zero small first = ap length (decimal_digit 0 (omega arith))
plain_decimal (suc n) small first = absurd (omega (arith, first_decimal (suc n) (omega arith) small))

decimal_is_plain : (n : ℕ) → n < 2 ^ 64 → IsPlain (decimal n)
decimal_is_plain n small = record { some = decimal_nonempty n small; alone = plain_decimal n small }

pub not_plain : (word : List ℕ) → (IsPlain word → ⊥) → (n : ℕ) → n < 2 ^ 64 → word ≡ decimal n → ⊥
not_plain word never n small is = never (subst IsPlain (sym is) (decimal_is_plain n small))

pub number_some : (word : List ℕ) (r : Option ℕ) → IsPlain word → IfSome r (λ n. (n < 2 ^ 64) × AllDigits 10 word × (n ≡ digits_value 10 word)) → IfSome r (λ n. (n < 2 ^ 64) × (word ≡ decimal n))
number_some word None plain h = tt
number_some word (Some n) plain h =
    let small : digits_value 10 word < 2 ^ 64 = omega (arith, h.0, h.2) in
    (h.0, sym (decimal-digits_value numerals word h.1 plain.some plain.alone small) ∙ ap decimal (sym h.2))

pub number_none : (word : List ℕ) (r : Option ℕ) → IfNone r (AllDigits 10 word → 2 ^ 64 ≤ digits_value 10 word) → IfNone r ((n : ℕ) → n < 2 ^ 64 → word ≡ decimal n → ⊥)
number_none word None h = λ n small is.
    let all : AllDigits 10 word = subst (AllDigits 10) (sym is) (digits_decimal numerals n small) in
    omega (arith, h all, ap (digits_value 10) is, digits_value-decimal numerals n small)
number_none word (Some n) h = tt

-- a word that is no number
abbrev pub NoNumber : List ℕ → Type 0
NoNumber word = (n : ℕ) → n < 2 ^ 64 → word ≡ decimal n → ⊥

digits_without : (c : ℕ) (cs word : List ℕ) → c < 48 → AllDigits 10 word → c ∷ cs ≡ word → ⊥
digits_without c cs [] low all is = cc
digits_without c cs (b ∷ word) low all is =
    let same : c ≡ b = cc in
    omega (arith, (digit_from_value b all.0).0)

-- no number begins with a minus
pub minus_first : (word : List ℕ) (n : ℕ) → n < 2 ^ 64 → 45 ∷ word ≡ decimal n → ⊥
minus_first word n small is = digits_without 45 word (decimal n) (omega arith) (digits_decimal numerals n small) is

pub no_negative : (word : List ℕ) → NoNumber word → (z : ℤ) → FitsSigned w64 z → 45 ∷ word ≡ signed_decimal z → ⊥
no_negative word never (pos n) fits is = minus_first word n (omega arith) is
no_negative word never (negsuc n) fits is = never (suc n) (omega arith) (cc)

-- a number's text is that of one number
pub other_number : (word : List ℕ) (m n : ℕ) → m < 2 ^ 64 → n < 2 ^ 64 → word ≡ decimal m → word ≡ decimal n → m ≡ n
other_number word m n low small was is = sym (digits_value-decimal numerals m low) ∙ ap (digits_value 10) (sym was ∙ is) ∙ digits_value-decimal numerals n small

pub not_negative : (word : List ℕ) (m : ℕ) → m < 2 ^ 64 → word ≡ decimal m → ((n : ℕ) → n < 2 ^ 63 → suc n ≢ m) → (z : ℤ) → FitsSigned w64 z → 45 ∷ word ≡ signed_decimal z → ⊥
not_negative word m low was apart (pos n) fits is = minus_first word n (omega arith) is
not_negative word m low was apart (negsuc n) fits is = apart n (omega arith) (sym (other_number word m (suc n) low (omega arith) was (cc)))

pub no_positive : (word : List ℕ) → NoNumber word → (z : ℤ) → FitsSigned w64 z → get_or word 0 0 ≢ 45 → word ≡ signed_decimal z → ⊥
no_positive word never (pos n) fits first is = never n (omega arith) is
no_positive word never (negsuc n) fits first is = first (ap (λ l. get_or l 0 0) is)

pub not_positive : (word : List ℕ) (m : ℕ) → m < 2 ^ 64 → word ≡ decimal m → 2 ^ 63 ≤ m → (z : ℤ) → FitsSigned w64 z → get_or word 0 0 ≢ 45 → word ≡ signed_decimal z → ⊥
not_positive word m low was high (pos n) fits first is = omega (arith, other_number word m n low (omega arith) was is)
not_positive word m low was high (negsuc n) fits first is = first (ap (λ l. get_or l 0 0) is)
