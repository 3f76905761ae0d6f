-- What packets do from the opening to the welcome, and another name, as plans.
use Rattle.std.proofs.Common.{◌≡◌, ℕ, zero, suc, ◌+◌, length, List, [], ◌∷◌, ◌++◌, refl, sym, ap, ap₂, subst, ◌∙◌, true, false, Bool}
use Rattle.std.proofs.Common.{Option, Some, None, arith}
use Rattle.std.specs.Prelude.{◌==◌, cond, filter, find, map, min, not, take}
use Rattle.std.proofs.lemmas.List.{append-nil, take_all}
use Rattle.tt_world.specs.declared.command.Entry.{Entry}
use Rattle.tt_world.specs.declared.setup.Setup.{Setup}
use Rattle.tt_rules.specs.declared.status.Status.TheVariants.{AuthGame, AuthCompany}
use Rattle.tt_game.specs.declared.message.GameMsg.TheVariants.{ServerWelcome, ServerGameInfo}
use Rattle.tt_admin.specs.declared.message.AdminMsg.TheVariants.{ServerClientInfo, ServerClientUpdate}
use Rattle.tt_log.specs.Admin.{client_updates}
use Rattle.tt_log.specs.Judged.{is_empty}
use Rattle.tt_log.specs.Member.{Member, is_playing, is_welcomed}
use Rattle.tt_log.specs.Deed.{Deed, ◌▹◌, tells_playing}
use Rattle.tt_log.specs.Watching.{sees_change}
use Rattle.tt_log.specs.Names.{first_free_name, given_name, is_taken, numbered}
use Rattle.tt_log.specs.PacketRules.{client_info, joins, password_step, password_step_by, company_step, company_step_by, welcomes}
use Rattle.tt_log.specs.PacketRules.{tells_game, renames}
use Rattle.tt_log.specs.Table.{Table, count_living, is_on, living_in, playing, with_member}
use Rattle.tt_members.specs.Crew.{Crew, Rest, origin_at, table_at}
use Rattle.tt_members.specs.Done.{Does, renamed}
use Rattle.tt_members.specs.Edits.{on, marked, marks_of}
use Rattle.tt_members.specs.Leaving.{but, others, playing_in}
use Rattle.tt_members.specs.Rules.{Rise}
use Rattle.tt_members.specs.declared.marks.Marks.{Marks}
use Rattle.tt_members.specs.declared.step.Step.{Step}
use Rattle.tt_members.specs.Steps.{says_one, says_several, shows, steps_in}
use Rattle.tt_join.specs.declared.joining.Guest.{Guest}
use Rattle.tt_join.specs.Joining.{bare, name_in, digest_in, guest_of, marks_in, welcomed_marks, welcoming, to_company_by, to_company}
use Rattle.tt_join.specs.Joining.{to_password_by, joining, game_told, renaming}
use Rattle.tt_members.proofs.Found.{with_found}

-- another name, whatever it is
abbrev renames_to : Member → List ℕ → Table → Deed
renames_to m name t = let in_ = record m { name = name } in tells_playing (client_info in_) (with_member in_ t) ▹ sees_change in_

-- ---- lists of members

-- one change behind another is both at once
both-one : (b : Bool) (f g : Member → Member) (n : Member) (conn : ℕ) → is_on conn n ≡ b → ((k : Member) → (g k).conn ≡ k.conn)
    → cond (is_on conn (cond b (g n) n)) (f (cond b (g n) n)) (cond b (g n) n) ≡ cond b (f (g n)) n
both-one true f g n conn is keeps = let same : is_on conn (g n) ≡ true = ap (λ c. c == conn) (keeps n) ∙ is in rw same refl
both-one false f g n conn is keeps = rw is refl

pub on-both : (conn : ℕ) (f g : Member → Member) (ms : List Member) → ((k : Member) → (g k).conn ≡ k.conn)
    → on conn f (on conn g ms) ≡ on conn (λ n. f (g n)) ms
on-both conn f g [] keeps = refl
on-both conn f g (n ∷ ms) keeps = ap₂ (λ x xs. x ∷ xs) (both-one (is_on conn n) f g n conn refl keeps) (on-both conn f g ms keeps)

-- those that play behind the change of one that doesn't play
quiet-one : (b p : Bool) (x n : Member) (xs ys : List Member) → (n.conn == x.conn) ≡ b → is_playing x ≡ false → is_playing n ≡ p
    → map (λ m. m.conn) (filter is_playing xs) ≡ but x.conn (map (λ m. m.conn) (filter is_playing ys))
    → map (λ m. m.conn) (filter is_playing (cond b x n ∷ xs)) ≡ but x.conn (map (λ m. m.conn) (filter is_playing (n ∷ ys)))
quiet-one true true x n xs ys here quiet plays same = rw (quiet, plays, here) same
quiet-one true false x n xs ys here quiet plays same = rw (quiet, plays) same
quiet-one false true x n xs ys here quiet plays same = rw (plays, here) (ap (λ cs. n.conn ∷ cs) same)
quiet-one false false x n xs ys here quiet plays same = rw plays same

pub quiet-others : (x : Member) (ms : List Member) → is_playing x ≡ false
    → playing_in (map (λ n. cond (n.conn == x.conn) x n) ms) ≡ others x.conn ms
quiet-others x [] quiet = refl
quiet-others x (n ∷ ms) quiet = quiet-one (n.conn == x.conn) (is_playing n) x n (map (λ k. cond (k.conn == x.conn) x k) ms) ms refl quiet
    refl
    (quiet-others x ms quiet)

-- those that play behind a change of one that leaves its connection and whether it plays
same-one : (b p : Bool) (f : Member → Member) (n : Member) (xs ys : List Member) → (f n).conn ≡ n.conn → is_playing (f n) ≡ p → is_playing
    n ≡ p
    → playing_in xs ≡ playing_in ys → playing_in (cond b (f n) n ∷ xs) ≡ playing_in (n ∷ ys)
same-one true true f n xs ys keeps stays plays same = rw (stays, plays) (ap₂ (λ c cs. c ∷ cs) keeps same)
same-one true false f n xs ys keeps stays plays same = rw (stays, plays) same
same-one false true f n xs ys keeps stays plays same = rw plays (ap (λ cs. n.conn ∷ cs) same)
same-one false false f n xs ys keeps stays plays same = rw plays same

pub same-playing : (conn : ℕ) (f : Member → Member) (ms : List Member) → ((k : Member) → (f k).conn ≡ k.conn)
    → ((k : Member) → is_playing (f k) ≡ is_playing k) → playing_in (on conn f ms) ≡ playing_in ms
same-playing conn f [] keeps stays = refl
same-playing conn f (n ∷ ms) keeps stays = same-one (is_on conn n) (is_playing n) f n (on conn f ms) ms (keeps n) (stays n) refl
    (same-playing conn f ms keeps stays)

-- ---- names

taken-same : (t : Table) (conn : ℕ) (wanted : List ℕ) (i n : ℕ)
    → first_free_name (bare t.members) conn wanted i n ≡ first_free_name t conn wanted i n
taken-same t conn wanted i zero = refl
taken-same t conn wanted i (suc n) = ap (λ (later : List ℕ). elim (is_taken t conn (numbered wanted i)) as (λ _. List ℕ) [
  | true ↦ later
  | false ↦ numbered wanted i
]) (taken-same t conn wanted (i + 1) n)

-- a name that one gets among members is that which it gets in each table with them
pub name-in : (t : Table) (conn : ℕ) (wanted : List ℕ) → name_in t.members conn wanted ≡ given_name t conn wanted
name-in t conn wanted = ap (λ (later : List ℕ). elim (is_taken t conn wanted) as (λ _. List ℕ) [
  | true ↦ later
  | false ↦ wanted
]) (taken-same t conn wanted 1 (length t.members))

-- a name that was not refused is not empty
pub some_bytes : (wanted : List ℕ) → is_empty wanted ≡ false → wanted ≡ [] → ⊥
some_bytes wanted some is = let empty : is_empty wanted ≡ true = rw is refl in absurd cc

-- ---- tables

-- a table in which only the members change
pub settled : (t u : Table) (ms : List Member) → u ≡ record t { members = ms } → record t { members = ms; journal = t.journal ++ [] } ≡ u
settled t u ms is = ap (λ (j : List Entry). record t { members = ms; journal = j }) (append-nil t.journal) ∙ sym is

-- a member may have another name, and another company that it asked for, before it gets marks: then these are the members
abbrev Stands : Option (ℕ × List ℕ) → Member → Table → Type 0
Stands names m t = (marks : Marks) → with_member (marked marks m) t
    ≡ record t { members = on m.conn (marked marks) (renamed names t.members) }

as-found : (m : Member) (t : Table) → Rise t.members → find (is_on m.conn) t.members ≡ Some m → Stands None m t
as-found m t rise is = λ marks. with_found 0 m.conn (marked marks) m t rise is refl

as-named : (name : List ℕ) (asked : ℕ) (m : Member) (t : Table) → Rise t.members → find (is_on m.conn) t.members ≡ Some m
    → Stands (Some (m.conn, name)) (record m { name = name; asked = asked }) t
as-named name asked m t rise is = λ marks.
    with_found 0 m.conn (λ n. marked marks (record n { name = name })) m t rise is refl
    ∙ ap (λ (ms : List Member). record t { members = ms }) (sym (on-both m.conn (marked marks) (λ n. record n { name = name }) t.members (λ
    k. refl)))

-- ---- the welcome, and the requests for passwords

welcome-stands : (setup : Setup) (crew : Crew) (frame top : ℕ) (r : Rest) (names : Option (ℕ × List ℕ)) (m : Member)
    → Stands names m (table_at crew frame top r)
    → Does setup crew frame top r (λ o t. welcomes o m t) (record (welcoming setup frame crew.members (guest_of m)) { names = names })
welcome-stands setup crew frame top r names m stands =
    let t = table_at crew frame top r in
    let x : Member = marked (welcomed_marks frame (marks_of m)) m in
    record {
      told = ap (λ cs. steps_in r.admins (says_one m.conn (ServerWelcome m.client setup.seed setup.id) ∷ says_several cs (client_info x)
          ∷ shows client_updates (ServerClientInfo x.client x.name x.company) ∷ [])) (sym (quiet-others x crew.members refl));
      table = settled t (with_member x t) (on m.conn (marked (welcomed_marks frame (marks_of m))) (renamed names crew.members)) (stands
          (welcomed_marks frame (marks_of m)));
    }

company-by : (digest : Option (List ℕ)) (setup : Setup) (crew : Crew) (frame top : ℕ) (r : Rest) (names : Option (ℕ × List ℕ)) (m : Member)
    → Stands names m (table_at crew frame top r)
    → Does setup crew frame top r (λ o t. company_step_by digest o m t) (record (to_company_by digest setup frame crew.members (guest_of
    m)) { names = names })
company-by None setup crew frame top r names m stands = welcome-stands setup crew frame top r names m stands
company-by (Some digest) setup crew frame top r names m stands =
    let t = table_at crew frame top r in
    let marks : Marks = marks_in AuthCompany frame (marks_of m) in
    record {
      told = refl;
      table = settled t (with_member (marked marks m) t) (on m.conn (marked marks) (renamed names crew.members))
          (stands marks);
    }

company-stands : (setup : Setup) (crew : Crew) (frame top : ℕ) (r : Rest) (names : Option (ℕ × List ℕ)) (m : Member)
    → Stands names m (table_at crew frame top r)
    → Does setup crew frame top r (λ o t. company_step o m t) (record (to_company setup frame crew.members crew.digests (guest_of m)) {
      names = names;
    })
company-stands setup crew frame top r names m stands =
    let d = company-by (digest_in crew.digests m.asked) setup crew frame top r names m stands in record { told = d.told; table = d.table }

password-by : (password : List ℕ) (setup : Setup) (crew : Crew) (frame top : ℕ) (r : Rest) (names : Option (ℕ × List ℕ)) (m : Member)
    → Stands names m (table_at crew frame top r)
    → Does setup crew frame top r (λ o t. password_step_by password o m t)
    (record (to_password_by password setup frame crew.members crew.digests (guest_of m)) { names = names })
password-by [] setup crew frame top r names m stands = company-stands setup crew frame top r names m stands
password-by (b ∷ bs) setup crew frame top r names m stands =
    let t = table_at crew frame top r in
    let marks : Marks = marks_in AuthGame frame (marks_of m) in
    record {
      told = refl;
      table = settled t (with_member (marked marks m) t) (on m.conn (marked marks) (renamed names crew.members))
          (stands marks);
    }

-- ---- the packets

-- JOIN
pub join_does : (setup : Setup) (crew : Crew) (frame top : ℕ) (r : Rest) (m : Member) (wanted : List ℕ) (company : ℕ)
    → Rise crew.members → find (is_on m.conn) crew.members ≡ Some m
    → Does setup crew frame top r (λ o t. joins o m wanted company t) (joining setup frame crew.members crew.digests m (name_in
    crew.members m.conn wanted) company)
join_does setup crew frame top r m wanted company rise is =
    let name = name_in crew.members m.conn wanted in let given = name-in (table_at crew frame top r) m.conn wanted in
    let o = origin_at setup r in let t = table_at crew frame top r in
    let d = password-by setup.password setup crew frame top r (Some (m.conn, name)) (record m { name = name; asked = company })
    (as-named name company m t rise is) in
    record {
      told = d.told ∙ ap (λ (n : List ℕ). (password_step o (record m { name = n; asked = company }) t).told) given;
      table = d.table ∙ ap (λ (n : List ℕ). (password_step o (record m { name = n; asked = company }) t).table) given;
    }

abbrev game_of : Setup → ℕ → List Bool → List Member → Member → List Step
game_of setup frame live ms m = says_one m.conn (ServerGameInfo setup.name frame (min (length (filter is_welcomed ms)) 255) (count_living
    live)
    setup.max_clients (not (is_empty setup.password))) ∷ []

-- GAME_INFO
pub game_info_does : (setup : Setup) (crew : Crew) (frame top : ℕ) (r : Rest) (live : List Bool) (m : Member)
    → living_in (origin_at setup r) (table_at crew frame top r) ≡ live → length live ≡ 15
    → Does setup crew frame top r (λ o t. tells_game o m t) (game_told setup frame live crew.members m)
game_info_does setup crew frame top r live m lives all =
    let t = table_at crew frame top r in
    let whole : take 15 live ≡ live = take_all 15 live (omega (arith, all)) in
    record {
      told = ap (λ (l : List Bool). steps_in r.admins (game_of setup frame l crew.members m)) (whole ∙ sym lives);
      table = settled t t crew.members refl;
    }

unnamed : (digest : Option (List ℕ)) (setup : Setup) (frame : ℕ) (ms : List Member) (g : Guest)
    → record (to_company_by digest setup frame ms g) { names = None } ≡ to_company_by digest setup frame ms g
unnamed None setup frame ms g = refl
unnamed (Some digest) setup frame ms g = refl

-- GAME_PASSWORD
pub game_password_does : (setup : Setup) (crew : Crew) (frame top : ℕ) (r : Rest) (m : Member) → Rise crew.members
    → find (is_on m.conn) crew.members ≡ Some m
    → Does setup crew frame top r (λ o t. company_step o m t) (to_company setup frame crew.members crew.digests (guest_of m))
game_password_does setup crew frame top r m rise is =
    subst (λ p. Does setup crew frame top r (λ o t. company_step o m t) p) (unnamed (digest_in crew.digests m.asked) setup frame
    crew.members (guest_of m))
    (company-stands setup crew frame top r None m (as-found m (table_at crew frame top r) rise is))

-- COMPANY_PASSWORD
pub company_password_does : (setup : Setup) (crew : Crew) (frame top : ℕ) (r : Rest) (m : Member) → Rise crew.members
    → find (is_on m.conn) crew.members ≡ Some m
    → Does setup crew frame top r (λ o t. welcomes o m t) (welcoming setup frame crew.members (guest_of m))
company_password_does setup crew frame top r m rise is = welcome-stands setup crew frame top r None m (as-found m (table_at crew frame top
    r) rise is)

-- SET_NAME
pub rename_does : (setup : Setup) (crew : Crew) (frame top : ℕ) (r : Rest) (m : Member) (wanted : List ℕ) → Rise crew.members
    → find (is_on m.conn) crew.members ≡ Some m
    → Does setup crew frame top r (λ o t. renames m wanted t) (renaming crew.members m (name_in crew.members m.conn wanted))
rename_does setup crew frame top r m wanted rise is =
    let name = name_in crew.members m.conn wanted in let given = name-in (table_at crew frame top r) m.conn wanted in
    let t = table_at crew frame top r in
    let rename : Member → Member = λ n. record n { name = name } in
    let x : Member = rename m in
    let found = with_found 0 m.conn rename m t rise is refl in
    let plays : playing (with_member x t) ≡ playing_in crew.members = ap playing found ∙ same-playing m.conn rename crew.members (λ k.
    refl) (λ k. refl) in
    let told = ap (λ cs. steps_in r.admins (says_several cs (client_info x) ∷ shows client_updates (ServerClientUpdate x.client x.name
    x.company) ∷ [])) (sym plays) in
    record {
      told = told ∙ ap (λ (n : List ℕ). (renames_to m n t).told) given;
      table = settled t (with_member x t) (on m.conn rename crew.members) found ∙ ap (λ (n : List ℕ). (renames_to m n t).table) given;
    }
