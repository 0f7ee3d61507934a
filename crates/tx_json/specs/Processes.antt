-- The processes.
use Rattle.std.specs.Prelude.{ℕ, ◌+◌, ◌-◌, List, [], ◌++◌, codes, Option, Some, None, if◌then◌else◌, nat_lt}
use Rattle.hex.specs.Hex.{encode_lower}
use Rattle.json.specs.Token.{Token}
use Rattle.tx_base.specs.declared.names.Regs.{Regs}
use Rattle.tx_json.specs.Descriptors.{fds_member}
use Rattle.tx_json.specs.Each.{upto}
use Rattle.tx_json.specs.Lists.{count_item, numbers_member}
use Rattle.tx_json.specs.Members.{begin_object, count_member, end_object, flag_member, list_member, number_member, word_member}
use Rattle.tx_json.specs.Signals.{signals_members}
use Rattle.tx_model.specs.Memory.{Memory, PageView, page_at}
use Rattle.tx_model.specs.State.{Ids, Process}

-- a page: none where the number is not mapped
abbrev pub page_item : ℕ → Option PageView → List Token
page_item number None = []
page_item number (Some page) =
    begin_object
    ++ (count_member (codes "page") number
    ++ (flag_member (codes "writable") page.writable
    ++ (word_member (codes "bytes") (encode_lower page.bytes) ++ end_object)))

-- the mapped pages
abbrev pub pages_member : Memory → List Token
pages_member memory =
    list_member (codes "pages") (upto (λ number. page_item number (page_at memory number)) 16)

-- what an ended process exited with, or the signal that killed it
abbrev pub status_member : ℕ → List Token
status_member status =
    if nat_lt status 256
    then count_member (codes "exit") status
    else count_member (codes "killed") (status - 256)

-- how a process ended, if it did
abbrev pub end_members : Option ℕ → List Token
end_members None = []
end_members (Some status) = status_member status

-- a real, an effective and a saved id
abbrev pub three_ids : List ℕ → ℕ → ℕ → ℕ → List Token
three_ids name real effective saved =
    list_member name (count_item real ++ (count_item effective ++ count_item saved))

-- a process's ids: of users, and of groups
abbrev pub ids_members : Ids → List Token
ids_members ids =
    three_ids (codes "users") ids.real_user ids.effective_user ids.saved_user
    ++ three_ids (codes "groups") ids.real_group ids.effective_group ids.saved_group

-- where a process is
abbrev pub registers_members : Regs → List Token
registers_members regs =
    count_member (codes "point") regs.point
    ++ (number_member (codes "ret") regs.ret ++ numbers_member (codes "slots") regs.slots)

-- what a process has
abbrev pub own_members : Process → List Token
own_members process =
    registers_members process.registers
    ++ (ids_members process.ids
    ++ (pages_member process.memory
    ++ (fds_member process.descriptors ++ signals_members process)))

-- a process: none where there is none of the number
abbrev pub process_item : ℕ → Option Process → List Token
process_item number None = []
process_item number (Some process) =
    begin_object
    ++ (count_member (codes "pid") number
    ++ (count_member (codes "parent") process.parent
    ++ (end_members process.status ++ (own_members process ++ end_object))))

-- the processes of the numbers up to a width, by rising number
abbrev pub procs_member : ℕ → (ℕ → Option Process) → List Token
procs_member width procs =
    list_member (codes "procs") (upto (λ done. process_item (done + 1) (procs (done + 1))) width)
