-- Document 02, (i), "A problem file for the bench": one card, and what it says.
use Rattle.std.specs.Prelude.{ℕ, zero, suc, ◌+◌, ◌*◌, ◌/◌, ◌%◌, min, Bool, true, false, cond, List, [], ◌∷◌, ◌++◌, leb, eqb, length, take, drop, replicate, Result, Ok, Err}
use Rattle.card.specs.declared.Fault.{Fault}
use Rattle.card.specs.declared.Fault.TheVariants.{SmallBuffers, Short, Edition, Large, Padding, LeftOver}
-- ---- "Bits, most significant first"

unfoldable pub use Rattle.bits.specs.Bits.{bits_of, bits_of_bytes, bits_of_all}

-- the number that bits say, going on from one
unfoldable pub value_from : ℕ → List ℕ → ℕ
value_from v [] = v
value_from v (b ∷ bits) = value_from (2 * v + b) bits

abbrev pub value : List ℕ → ℕ
value bits = value_from 0 bits

-- ---- what a card says

pub record Card : Type 0 where
  pub packed : Bool
  pub n : ℕ
  pub m : ℕ
  pub words : List ℕ
  pub max_iter : ℕ
  pub sweep_limit : ℕ
  -- eps_acc, eps_inf, eps_zero, then c, A and b, as 64-bit patterns
  pub numbers : List ℕ

-- "Faults are 1 short, 2 edition, 3 n or m above 32, 4 padding not zero, 5 bytes left over." 0 is none of a card.
abbrev pub fault_number : Fault → ℕ
fault_number SmallBuffers = 0
fault_number Short = 1
fault_number Edition = 2
fault_number Large = 3
fault_number Padding = 4
fault_number LeftOver = 5

abbrev pub Reading : Type 0
Reading = Result Card Fault

pattern abbrev pub fault : Fault → Reading
fault f = Err f

pattern abbrev pub read : Card → Reading
read k = Ok k

-- "a packed A has n(n+1)/2 numbers"
abbrev pub numbers_of_a : Bool → ℕ → ℕ → ℕ
numbers_of_a packed n m = cond packed (n * (n + 1) / 2) (m * n)

abbrev pub number_count : Bool → ℕ → ℕ → ℕ
number_count packed n m = 3 + n + numbers_of_a packed n m + m

-- ---- "The card is read from its front and the first fault met answers"

-- "a field that isn't whole is short": else its value, and the bits that follow
unfoldable pub taken : ℕ → List ℕ → (ℕ → List ℕ → Reading) → Reading
unfolding value_from
taken w bits next = cond (leb w (length bits)) (next (value (take w bits)) (drop w bits)) (fault Short)

-- so many fields of a width
unfoldable pub taken_all : ℕ → ℕ → List ℕ → (List ℕ → List ℕ → Reading) → Reading
unfolding taken
taken_all zero w bits next = next [] bits
taken_all (suc k) w bits next = taken w bits (λ v rest. taken_all k w rest (λ vs after. next (v ∷ vs) after))

-- a fault unless it holds
abbrev pub judged : Bool → Fault → Reading → Reading
judged holds f next = cond holds next (fault f)

unfoldable pub all_zero : List ℕ → Bool
all_zero [] = true
all_zero (b ∷ bits) = cond (eqb b 0) (all_zero bits) false

-- "zero bits to the byte's end"; "5 is judged last"
unfoldable pub closed : Card → List ℕ → Reading
unfolding all_zero
closed card bits =
    let padding = length bits % 8 in
    judged (all_zero (take padding bits)) Padding (judged (eqb (length bits) padding) LeftOver (read card))

-- "4 edition (1), 1 packed flag, 6 n, 6 m, 6 number of cone words, the words at 16 each, 20 max_iter, 7 sweep limit, then 64 each for ..":
-- "edition, n and m are each judged once they are read whole"
unfoldable pub read_bits : List ℕ → Reading
unfolding taken taken_all closed
read_bits bits =
    taken 4 bits
    (λ edition bits1. judged (eqb edition 1) Edition
    (taken 1 bits1
    (λ flag bits2. taken 6 bits2
    (λ n bits3. judged (leb n 32) Large
    (taken 6 bits3
    (λ m bits4. judged (leb m 32) Large
    (taken 6 bits4
    (λ count bits5. taken_all count 16 bits5
    (λ words bits6. taken 20 bits6
    (λ max_iter bits7. taken 7 bits7
    (λ sweep_limit bits8. taken_all (number_count (eqb flag 1) n m) 64 bits8
    (λ numbers bits9. closed
    (record { packed = eqb flag 1; n = n; m = m; words = words; max_iter = max_iter; sweep_limit = sweep_limit; numbers = numbers })
    bits9))))))))))))

unfoldable pub read_card : List ℕ → Reading
unfolding read_bits bits_of_bytes
read_card bytes = read_bits (bits_of_bytes bytes)

-- ---- "written back by a writer"

unfoldable pub card_bits : Card → List ℕ
unfolding bits_of bits_of_all
card_bits k =
    bits_of 4 1 ++ bits_of 1 (cond k.packed 1 0) ++ bits_of 6 k.n ++ bits_of 6 k.m ++ bits_of 6 (length k.words) ++ bits_of_all 16 k.words
    ++ bits_of 20 k.max_iter ++ bits_of 7 k.sweep_limit ++ bits_of_all 64 k.numbers

-- how many bytes hold so many bits
abbrev pub bytes_for : ℕ → ℕ
bytes_for bits = (bits + 7) / 8

-- the bytes that bits say, the last one filled up with zero bits
unfoldable pub bytes_of : ℕ → List ℕ → List ℕ
unfolding value_from
bytes_of zero bits = []
bytes_of (suc k) bits = value (take 8 (bits ++ replicate 8 0)) ∷ bytes_of k (drop 8 bits)

unfoldable pub written_card : Card → List ℕ
unfolding card_bits bytes_of
written_card k = bytes_of (bytes_for (length (card_bits k))) (card_bits k)

-- ---- how much of a file tells its card

-- the bytes of the longest card: 63 words, and n and m of 32, not packed
abbrev pub longest_card : ℕ
longest_card = bytes_for (4 + 1 + 6 + 6 + 6 + 16 * 63 + 20 + 7 + 64 * number_count false 32 32)

-- one byte more shows that a file is longer than any card
abbrev pub enough : ℕ
enough = longest_card + 1

-- of a file of so many bytes: all, or enough
abbrev pub front_length : ℕ → ℕ
front_length bytes = min bytes enough
