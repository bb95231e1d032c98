-- Document 01, "What the hub hands over": the limits. The code has the same numbers as constants of this crate.
use Rattle.std.specs.Prelude.{ℕ, ◌-◌, ◌/◌, ◌^◌}

-- "n, m: 0 to 256"; by request (vii) of document 02 "Raise n and m to 1,024"
abbrev pub limit : ℕ
limit = 1024

-- "Cone list: 0 to 32 words."; by (vii) "the cone list to 128 words"
abbrev pub most_words : ℕ
most_words = 128

-- "max_iter: 0 to 1,000,000"
abbrev pub most_steps : ℕ
most_steps = 1000000

-- "Sweep limit: 1 to 64"
abbrev pub most_sweeps : ℕ
most_sweeps = 64

-- By request (viii) of document 02: "At most 8 groups deep"
abbrev pub most_deep : ℕ
most_deep = 8

-- No limit of document 01, and beyond every machine: so few places that the rotations of a list of blocks, at most most_sweeps a place, fit 64 bits.
abbrev pub most_places : ℕ
most_places = (2 ^ 64 - 1) / most_sweeps
