-- The words of the theorems on reading and writing a card.
use Rattle.std.specs.Prelude.{ℕ, ◌^◌, ◌≤◌, ◌<◌, ◌≡◌, List, length, get_or}
use Rattle.card.specs.Card.{Card, number_count}

-- every byte is below 256
abbrev pub AreBytes : List ℕ → Type 0
AreBytes bytes = (i : ℕ) → get_or bytes i 0 < 256

-- a card whose fields hold what they are to say
pub record Fits (k : Card) : Type 0 where
  pub n_fits : k.n ≤ 32
  pub m_fits : k.m ≤ 32
  pub few_words : length k.words ≤ 63
  pub words_fit : (i : ℕ) → get_or k.words i 0 < 2 ^ 16
  pub max_iter_fits : k.max_iter < 2 ^ 20
  pub sweep_limit_fits : k.sweep_limit < 2 ^ 7
  pub as_many_numbers : length k.numbers ≡ number_count k.packed k.n k.m
  pub numbers_fit : (i : ℕ) → get_or k.numbers i 0 < 2 ^ 64
