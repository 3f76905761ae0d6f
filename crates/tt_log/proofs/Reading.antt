-- What is read of a packet whose body is bytes is in the ranges of its row.
use Rattle.std.proofs.Common.{◌≡◌, ℕ, ◌<◌, ◌≤◌, true, List, Option, Some, sym, subst, ◌∙◌}
use Rattle.std.specs.Prelude.{Result, Ok, Err, ◌^◌}
use Rattle.std.specs.Result.{result_ok}
use Rattle.tt_frame.specs.Text.{is_text}
use Rattle.tt_frame.specs.Packet.{IsBytes}
use Rattle.tt_frame.specs.Families.{Family, family_kind}
use Rattle.tt_frame.specs.Tables.{Rule, SpelledBy, read_by, rule_of}
use Rattle.tt_frame.specs.Unread.{whole}
use Rattle.tt_frame.proofs.FamilyLaws.{Lawful, kind_is}
use Rattle.tt_frame.proofs.RowLaws.{row_takes}
use Rattle.tt_frame.proofs.TableLaws.{read_by_row}
use Rattle.tt_game.specs.declared.message.GameMsg.{GameMsg}
use Rattle.tt_game.specs.declared.message.GameMsg.TheVariants.{ClientJoin, ClientCommand, ClientChat, ClientSetName, ClientMove}
use Rattle.tt_game.specs.declared.message.GameMsg.TheVariants.{ClientError}
use Rattle.tt_game.specs.Apart.{game_family, kind_of}
use Rattle.tt_game.specs.Messages.{messages}
use Rattle.tt_game.proofs.MessageLaws.{game_lawful}
use Rattle.tt_admin.specs.declared.message.AdminMsg.{AdminMsg}
use Rattle.tt_admin.specs.declared.message.AdminMsg.TheVariants.{AdminChat, AdminRcon, AdminPing}
use Rattle.tt_admin.specs.Apart.{admin_family}
use Rattle.tt_admin.specs.Messages as admins
use Rattle.tt_admin.proofs.MessageLaws.{admin_lawful}
use Rattle.tt_edge.specs.declared.event.Event.{Event}
use Rattle.tt_log.specs.Member.{Member}
use Rattle.tt_log.specs.History.{IsEvent}
use Rattle.tt_log.proofs.Changes.{Says, SaysAside}

ok-of : {M : Type 0} (r : Result M ℕ) (m : M) → result_ok r ≡ Some m → r ≡ Ok m
ok-of (Ok n) m is = cc
ok-of (Err at) m is = absurd cc

-- it is spelled so, under its own number
spelled-as : (M : Type 0) (family : Family M) → Lawful family → (m : M) (kind : ℕ) (body : List ℕ) → IsBytes body
    → result_ok (read_by family.table kind (whole body)) ≡ Some m → SpelledBy family.table m (family_kind family m) body
spelled-as M family lawful m kind body bytes is =
    let l : Rule M = rule_of family.table kind in
    let read : SpelledBy family.table m kind body = row_takes l.fields l.make (whole body) m bytes
    (sym (read_by_row family.table kind (whole body)) ∙ ok-of (read_by family.table kind (whole body)) m is) in
    subst (λ (k : ℕ). SpelledBy family.table m k body) (sym (kind_is M family lawful m kind body read)) read

-- what a member says is spelled by its packet, and so is what an admin says
pub said-spelled : (e : Event) (m : Member) (msg : GameMsg) → IsEvent e → Says e m msg → (body : List ℕ)
    × SpelledBy messages msg (kind_of msg) body
said-spelled e m msg bytes (kind, body, is, read) =
    (body, spelled-as GameMsg game_family game_lawful msg kind body (subst IsEvent is bytes) read)

pub aside-spelled : (e : Event) (msg : AdminMsg) → IsEvent e → SaysAside e msg → (body : List ℕ)
    × SpelledBy admins.messages msg (family_kind admin_family msg) body
aside-spelled e msg bytes (kind, body, fits, read) = (body, spelled-as AdminMsg admin_family admin_lawful msg kind body (fits bytes) read)

join-row : (revision : List ℕ) (grf : ℕ) (name : List ℕ) (company : ℕ) (body : List ℕ)
    → SpelledBy messages (ClientJoin revision grf name company) 2 body → (is_text 24 name ≡ true) × (company < 2 ^ 8)
join-row revision grf name company body (x, (b, (f, p, (y, (c, (g, q, (z, (d, (h, r, (w, (e, (k, s, (same, done))))))))))))) =
    let one : name ≡ z = cc in let two : company ≡ w = cc in
    (subst (λ (t : List ℕ). is_text 24 t ≡ true) (sym one) h, subst (λ (n : ℕ). n < 2 ^ 8) (sym two) k)

pub join-fits : (e : Event) (m : Member) (revision : List ℕ) (grf : ℕ) (name : List ℕ) (company : ℕ) → IsEvent e
    → Says e m (ClientJoin revision grf name company) → (is_text 24 name ≡ true) × (company < 2 ^ 8)
join-fits e m revision grf name company bytes says =
    let s = said-spelled e m (ClientJoin revision grf name company) bytes says in join-row revision grf name company s.0 s.1

command-row : (company code number to : ℕ) (text body : List ℕ) → SpelledBy messages (ClientCommand company code number to text) 24 body
    → (company < 2 ^ 8) × (number < 2 ^ 32) × (to < 2 ^ 8) × (is_text 31 text ≡ true)
command-row company code number to text body
    (x, (b, (f, p, (y, (c, (g, q, (z, (d, (h, r, (w, (e, (k, s, (v, (i, (l, u, (same, done)))))))))))))))) =
    let one : company ≡ x = cc in let two : number ≡ z = cc in let three : to ≡ w = cc in let four : text ≡ v = cc in (
      subst (λ (n : ℕ). n < 2 ^ 8) (sym one) f,
      subst (λ (n : ℕ). n < 2 ^ 32) (sym two) h,
      subst (λ (n : ℕ). n < 2 ^ 8) (sym three) k,
      subst (λ (t : List ℕ). is_text 31 t ≡ true) (sym four) l,
    )

pub command-fits : (e : Event) (m : Member) (company code number to : ℕ) (text : List ℕ) → IsEvent e
    → Says e m (ClientCommand company code number to text)
    → (company < 2 ^ 8) × (number < 2 ^ 32) × (to < 2 ^ 8) × (is_text 31 text ≡ true)
command-fits e m company code number to text bytes says =
    let s = said-spelled e m (ClientCommand company code number to text) bytes says in command-row company code number to text s.0 s.1

chat-row : (scope to : ℕ) (text body : List ℕ) → SpelledBy messages (ClientChat scope to text) 26 body
    → (scope ≤ 2) × (is_text 899 text ≡ true)
chat-row scope to text body (x, (b, (f, p, (y, (c, (g, q, (z, (d, (h, r, (same, done)))))))))) =
    let one : scope ≡ x = cc in let two : text ≡ z = cc in
    (subst (λ (n : ℕ). n ≤ 2) (sym one) f.0, subst (λ (t : List ℕ). is_text 899 t ≡ true) (sym two) h)

pub chat-fits : (e : Event) (m : Member) (scope to : ℕ) (text : List ℕ) → IsEvent e → Says e m (ClientChat scope to text)
    → (scope ≤ 2) × (is_text 899 text ≡ true)
chat-fits e m scope to text bytes says =
    let s = said-spelled e m (ClientChat scope to text) bytes says in chat-row scope to text s.0 s.1

name-row : (name body : List ℕ) → SpelledBy messages (ClientSetName name) 28 body → is_text 24 name ≡ true
name-row name body (x, (b, (f, p, (same, done)))) = let one : name ≡ x = cc in subst (λ (t : List ℕ). is_text 24 t ≡ true) (sym one) f

pub name-fits : (e : Event) (m : Member) (name : List ℕ) → IsEvent e → Says e m (ClientSetName name) → is_text 24 name ≡ true
name-fits e m name bytes says = let s = said-spelled e m (ClientSetName name) bytes says in name-row name s.0 s.1

move-row : (company : ℕ) (digest : Option (List ℕ)) (body : List ℕ) → SpelledBy messages (ClientMove company digest) 31 body
    → company < 2 ^ 8
move-row company digest body (x, (b, (f, p, (y, (c, (g, q, (same, done))))))) =
    let one : company ≡ x = cc in subst (λ (n : ℕ). n < 2 ^ 8) (sym one) f

pub move-fits : (e : Event) (m : Member) (company : ℕ) (digest : Option (List ℕ)) → IsEvent e → Says e m (ClientMove company digest)
    → company < 2 ^ 8
move-fits e m company digest bytes says = let s = said-spelled e m (ClientMove company digest) bytes says in move-row company digest s.0 s.1

error-row : (code : ℕ) (body : List ℕ) → SpelledBy messages (ClientError code) 33 body → code ≤ 20
error-row code body (x, (b, (f, p, (same, done)))) = let one : code ≡ x = cc in subst (λ (n : ℕ). n ≤ 20) (sym one) f.0

pub error-fits : (e : Event) (m : Member) (code : ℕ) → IsEvent e → Says e m (ClientError code) → code ≤ 20
error-fits e m code bytes says = let s = said-spelled e m (ClientError code) bytes says in error-row code s.0 s.1

-- ---- of admins

ping-row : (id : ℕ) (body : List ℕ) → SpelledBy admins.messages (AdminPing id) 7 body → id < 2 ^ 32
ping-row id body (x, (b, (f, p, (same, done)))) = let one : id ≡ x = cc in subst (λ (n : ℕ). n < 2 ^ 32) (sym one) f

pub ping-fits : (e : Event) (id : ℕ) → IsEvent e → SaysAside e (AdminPing id) → id < 2 ^ 32
ping-fits e id bytes says = let s = aside-spelled e (AdminPing id) bytes says in ping-row id s.0 s.1

rcon-row : (text body : List ℕ) → SpelledBy admins.messages (AdminRcon text) 5 body → is_text 899 text ≡ true
rcon-row text body (x, (b, (f, p, (same, done)))) = let one : text ≡ x = cc in subst (λ (t : List ℕ). is_text 899 t ≡ true) (sym one) f

pub rcon-fits : (e : Event) (text : List ℕ) → IsEvent e → SaysAside e (AdminRcon text) → is_text 899 text ≡ true
rcon-fits e text bytes says = let s = aside-spelled e (AdminRcon text) bytes says in rcon-row text s.0 s.1

aside-row : (scope to : ℕ) (text body : List ℕ) → SpelledBy admins.messages (AdminChat scope to text) 4 body
    → (scope ≤ 2) × (is_text 899 text ≡ true)
aside-row scope to text body (x, (b, (f, p, (y, (c, (g, q, (z, (d, (h, r, (same, done)))))))))) =
    let one : scope ≡ x = cc in let two : text ≡ z = cc in
    (subst (λ (n : ℕ). n ≤ 2) (sym one) f.0, subst (λ (t : List ℕ). is_text 899 t ≡ true) (sym two) h)

pub aside-fits : (e : Event) (scope to : ℕ) (text : List ℕ) → IsEvent e → SaysAside e (AdminChat scope to text)
    → (scope ≤ 2) × (is_text 899 text ≡ true)
aside-fits e scope to text bytes says =
    let s = aside-spelled e (AdminChat scope to text) bytes says in aside-row scope to text s.0 s.1
