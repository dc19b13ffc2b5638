-- The draws that a demo is made of: numbers of a linear congruential generator.
use Rattle.std.specs.Prelude.{ℕ, zero, suc, ◌+◌, ◌*◌, ◌/◌, ◌%◌, ◌^◌}

-- the state behind a seed
abbrev pub first_state : ℕ → ℕ
first_state seed = seed % 2 ^ 31

-- the state behind a state
unfoldable pub next_state : ℕ → ℕ
next_state x = (x * 1103515245 + 12345) % 2 ^ 31

-- the state after so many draws
unfoldable pub after : ℕ → ℕ → ℕ
after x zero = x
after x (suc k) = next_state (after x k)

-- what a draw of m gives that led to a state: a number below m
unfoldable pub given : ℕ → ℕ → ℕ
given x m = x / 65536 % m

-- what the next draw of m gives, after so many others
abbrev pub draw : ℕ → ℕ → ℕ → ℕ
draw x k m = given (after x (suc k)) m
