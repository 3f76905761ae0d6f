-- What is sent: a message whose fields are in their ranges has its spelling, and is small.
use Rattle.std.proofs.Common.{◌≡◌, ℕ, ◌≤◌, true, false, lit<, List, [], ◌∷◌, length, refl, subst, arith}
use Rattle.std.specs.List.{AllByRecursion}
use Rattle.tt_frame.specs.Apart.{PartedFits}
use Rattle.tt_frame.specs.Packet.{packet}
use Rattle.tt_frame.specs.Families.{Family, family_kind, family_body}
use Rattle.tt_frame.specs.Tables.{SpelledBy, rule_of}
use Rattle.tt_frame.proofs.ApartLaws.{values_spell}
use Rattle.tt_frame.proofs.FamilyLaws.{Lawful}
use Rattle.tt_frame.proofs.SizeLaws.{body_size, body_size_but, is_one_of}
use Rattle.tt_game.specs.declared.message.GameMsg.{GameMsg}
use Rattle.tt_game.specs.Apart as games
use Rattle.tt_game.specs.Messages as game_rows
use Rattle.tt_game.proofs.MessageLaws.{game_lawful}
use Rattle.tt_admin.specs.declared.message.AdminMsg.{AdminMsg}
use Rattle.tt_admin.specs.declared.message.AdminMsg.TheVariants.{ServerCmdNames, ServerProtocol}
use Rattle.tt_admin.specs.Apart as admins
use Rattle.tt_admin.specs.Messages as admin_rows
use Rattle.tt_admin.proofs.MessageLaws.{admin_lawful}
use Rattle.tt_frame.specs.Text.{is_plain, is_text}
use Rattle.tt_frame.proofs.TextLaws.{is_text-from_IsText, IsText-from_is_plain}
use Rattle.tt_log.specs.Deed.{Said, game, admin}
use Rattle.tt_log.specs.Admin.{allowed_bits}
use Rattle.tt_log.specs.Polls.{command_names}
use Rattle.tt_log.specs.Desk.{admin_protocol, types_from}
use Rattle.tt_log.specs.Spelled.{IsSmall, IsSpelled}

-- it has its spelling, and is small
abbrev pub IsSent : Said → Type 0
IsSent s = IsSpelled s × IsSmall s

abbrev pub AreSent : List Said → Type 0
AreSent said = AllByRecursion IsSent said

-- a packet is three bytes longer than its body
small-packet : (kind : ℕ) (body : List ℕ) → length body ≤ 1457 → length (packet kind body) ≤ 1460
small-packet kind body l = omega (arith, l)

-- what is taken apart is spelled by its values
of-values : (M : Type 0) (family : Family M) → Lawful family → (m : M) → PartedFits family.table (family.apart m)
    → SpelledBy family.table m (family_kind family m) (family_body family m)
of-values M family lawful m fits =
    let l = rule_of family.table (family_kind family m) in
    subst (λ (n : M). SpelledBy family.table n (family_kind family m) (family_body family m)) (lawful.same m)
    (values_spell M l.fields l.make (family.apart m).values fits)

-- a message whose fields are in their ranges
pub game-spelled : (m : GameMsg) → PartedFits game_rows.messages (games.apart m) → IsSent (game m)
game-spelled m fits =
    let is : IsSpelled (game m) = of-values GameMsg games.game_family game_lawful m fits in (
      is,
      small-packet (games.kind_of m) (games.body_bytes m) (body_size GameMsg 1457 game_rows.messages m (games.kind_of m)
          (games.body_bytes m) refl is),
    )

-- and one of the admin family, but for the names of commands
pub admin-spelled : (m : AdminMsg) → is_one_of (122 ∷ []) (admins.kind_of m) ≡ false → PartedFits admin_rows.messages (admins.apart m)
    → IsSent (admin m)
admin-spelled m other fits =
    let is : IsSpelled (admin m) = of-values AdminMsg admins.admin_family admin_lawful m fits in (
      is,
      small-packet (admins.kind_of m) (admins.body_bytes m) (body_size_but AdminMsg (122 ∷ []) 1457 admin_rows.messages m
          (admins.kind_of m) (admins.body_bytes m) refl other is),
    )

-- ---- the two lists that admins are told

pub protocol-sent : IsSent (admin (ServerProtocol admin_protocol (types_from 0 allowed_bits)))
protocol-sent = admin-spelled (ServerProtocol admin_protocol (types_from 0 allowed_bits)) refl (
  lit< tt,
  (
    omega arith,
    (
      (lit< tt, (lit< tt, tt)),
      (
        (lit< tt, (lit< tt, tt)),
        (
          (lit< tt, (lit< tt, tt)),
          (
            (lit< tt, (lit< tt, tt)),
            (
              (lit< tt, (lit< tt, tt)),
              (
                (lit< tt, (lit< tt, tt)),
                ((lit< tt, (lit< tt, tt)), ((lit< tt, (lit< tt, tt)), ((lit< tt, (lit< tt, tt)), ((lit< tt, (lit< tt, tt)), tt)))),
              ),
            ),
          ),
        ),
      ),
    ),
    tt,
  ),
)

-- a word of letters is a text
plain : (bytes : List ℕ) → is_plain bytes ≡ true → length bytes ≤ 31 → is_text 31 bytes ≡ true
plain bytes is few = is_text-from_IsText 31 bytes (IsText-from_is_plain bytes is) few

pub names-sent : IsSent (admin (ServerCmdNames command_names))
names-sent =
    let is : IsSpelled (admin (ServerCmdNames command_names)) = of-values AdminMsg admins.admin_family admin_lawful
    (ServerCmdNames command_names) (
      omega arith,
      (
        (lit< tt, (plain _ refl (omega arith), tt)),
        (
          (lit< tt, (plain _ refl (omega arith), tt)),
          (
            (lit< tt, (plain _ refl (omega arith), tt)),
            (
              (
                lit< tt,
                (
                  plain _ refl (omega arith),
                  tt,
                ),
              ),
              (
                (lit< tt, (plain _ refl (omega arith), tt)),
                (
                  (lit< tt, (plain _ refl (omega arith), tt)),
                  (
                    (
                      lit< tt,
                      (
                        plain _ refl
                            (omega arith),
                        tt,
                      ),
                    ),
                    ((lit< tt, (plain _ refl (omega arith), tt)), ((lit< tt, (plain _ refl (omega arith), tt)), tt)),
                  ),
                ),
              ),
            ),
          ),
        ),
      ),
      tt,
    ) in
    (is, small-packet 122 (admins.body_bytes (ServerCmdNames command_names)) (omega arith))
