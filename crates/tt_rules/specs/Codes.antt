-- The reasons for which a connection ends, by their codes.
use Rattle.std.specs.Prelude.{ℕ}

-- GENERAL; a hub gives it for what it does not take
abbrev pub general : ℕ
general = 0

abbrev pub connection_lost : ℕ
connection_lost = 3

abbrev pub illegal_packet : ℕ
illegal_packet = 4

abbrev pub not_expected : ℕ
not_expected = 7

abbrev pub wrong_revision : ℕ
wrong_revision = 8

abbrev pub name_in_use : ℕ
name_in_use = 9

abbrev pub wrong_password : ℕ
wrong_password = 10

abbrev pub company_mismatch : ℕ
company_mismatch = 11

abbrev pub kicked : ℕ
kicked = 12

abbrev pub too_many_commands : ℕ
too_many_commands = 15

abbrev pub timeout_password : ℕ
timeout_password = 16

abbrev pub timeout_computer : ℕ
timeout_computer = 17

abbrev pub timeout_map : ℕ
timeout_map = 18

abbrev pub timeout_join : ℕ
timeout_join = 19

abbrev pub invalid_client_name : ℕ
invalid_client_name = 20
