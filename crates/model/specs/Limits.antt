-- "Limits: 64 links, 32 flows, 96 tunnels and 50 steps; amounts up to 10,000,000 (Mbit/s). Fractions are whole thousandths."
use Rattle.std.specs.Prelude.{ℕ}

abbrev pub most_links : ℕ
most_links = 64

abbrev pub most_flows : ℕ
most_flows = 32

abbrev pub most_tunnels : ℕ
most_tunnels = 96

abbrev pub most_steps : ℕ
most_steps = 50

abbrev pub most_amount : ℕ
most_amount = 10000000

-- the newest edition of a network's form: "Edition `net=3` .."
abbrev pub newest_edition : ℕ
newest_edition = 3

-- "`scratch` 20..500; `overrun` 0 or 20..500"
abbrev pub least_share : ℕ
least_share = 20

abbrev pub most_share : ℕ
most_share = 500

-- "a lag w of 1 to 4"
abbrev pub most_lag : ℕ
most_lag = 4

-- of rule tables, by the second paper: "`switches` 1..64"; "`room` 0..65,535"; `slack` is a share, and tunnels are as many as in a network
abbrev pub most_switches : ℕ
most_switches = 64

abbrev pub most_room : ℕ
most_room = 65535
