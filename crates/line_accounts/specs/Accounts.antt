-- How accounts are stored in lines. Account a is stored in lane a mod 8 of line a / 8, and the number in this lane is
-- the balance of the account. The definitions in this file were made for this project; none is taken from the
-- literature.
use Rattle.std.specs.Prelude.{ℕ, ◌+◌, ◌-◌, ◌/◌, ◌%◌, ◌<◌, ◌≤◌, List}
use Rattle.line_lanes.specs.Lane.{lane_of, with_lane_of}
use Rattle.line_accounts.specs.declared.law.TheConstants.{MAX_BALANCE}

-- the line of an account, and its lane there
abbrev pub line_of : ℕ → ℕ
line_of account = account / 8

abbrev pub lane_in : ℕ → ℕ
lane_in account = account % 8

-- no balance of the line is above the limit
abbrev pub AreBalances : List ℕ → Type 0
AreBalances line = (k : ℕ) → k < 8 → lane_of line k ≤ MAX_BALANCE

-- the change that a turn may make: all lanes are balances before it and after it
abbrev pub StayBalances : List ℕ → List ℕ → Type 0
StayBalances old new = AreBalances old × AreBalances new

pub balances_after : (old new : List ℕ) → AreBalances old → StayBalances old new → AreBalances new
balances_after old new good stay = stay.1

pub balances_same : (line : List ℕ) → AreBalances line → StayBalances line line
balances_same line good = (good, good)

-- the line with `amount` more in a lane; the line with `amount` less in it
abbrev pub credited : List ℕ → ℕ → ℕ → List ℕ
credited line lane amount = with_lane_of line lane (lane_of line lane + amount)

abbrev pub debited : List ℕ → ℕ → ℕ → List ℕ
debited line lane amount = with_lane_of line lane (lane_of line lane - amount)

-- a lane's balance may rise by the amount
abbrev pub HasRoom : List ℕ → ℕ → ℕ → Type 0
HasRoom line lane amount = lane_of line lane + amount ≤ MAX_BALANCE
