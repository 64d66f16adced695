-- The members of objects, put one after another.
use Rattle.std.proofs.Common.{◌≡◌, Option, Some, None, refl, ◌∙◌}
use Rattle.std.specs.Prelude.{codes}
use Rattle.serde_json.specs.Data.{Data, Members, member, no_members, put, string}
use Rattle.lsp_rpc.specs.Act.{Text}
use Rattle.lsp_redact.specs.Messages.{answer_members, call_members, member_if, put_if, version_data}

-- ---- in the order of their names

change_order : (range length : Option Data) (text : Data)
    → put (codes "text") text (put_if (codes "rangeLength") length
    (put_if (codes "range") range no_members))
    ≡ member_if (codes "range") range (member_if (codes "rangeLength") length
    (member (codes "text") text no_members))
change_order None None text = refl
change_order None (Some length) text = refl
change_order (Some range) None text = refl
change_order (Some range) (Some length) text = refl

save_order : (text : Option Data) (document : Data)
    → put (codes "textDocument") document (put_if (codes "text") text no_members)
    ≡ member_if (codes "text") text (member (codes "textDocument") document no_members)
save_order None document = refl
save_order (Some text) document = refl

offer_order : (capabilities : Data) (token : Option Data)
    → put_if (codes "workDoneToken") token (put (codes "capabilities") capabilities no_members)
    ≡ member (codes "capabilities") capabilities
    (member_if (codes "workDoneToken") token no_members)
offer_order capabilities None = refl
offer_order capabilities (Some token) = refl

call_order : (id : Option Data) (method : Text) (params : Option Data)
    → put_if (codes "params") params (put (codes "method") (string method)
    (put (codes "jsonrpc") version_data (put_if (codes "id") id no_members)))
    ≡ call_members id method params
call_order None method None = refl
call_order None method (Some params) = refl
call_order (Some id) method None = refl
call_order (Some id) method (Some params) = refl

answer_order : (id : Data) (name : Text) (answer : Data)
    → put name answer (put (codes "id") id (put (codes "jsonrpc") version_data no_members))
    ≡ answer_members id name answer
answer_order id name answer = refl

-- ---- as the code puts them

pub change_made : (a b c d : Members) (range own length long : Option Data) (text shown : Data)
    → a ≡ no_members → b ≡ put_if (codes "range") range a → range ≡ own
    → c ≡ put_if (codes "rangeLength") length b → length ≡ long → d ≡ put (codes "text") text c
    → text ≡ shown
    → d ≡ member_if (codes "range") own (member_if (codes "rangeLength") long
    (member (codes "text") shown no_members))
change_made a b c d range own length long text shown first second range_is third length_is last
    text_is =
    let ranged : b ≡ put_if (codes "range") own no_members =
    second ∙ (λ i. put_if (codes "range") (range_is i) (first i)) in
    let measured : c ≡ put_if (codes "rangeLength") long
    (put_if (codes "range") own no_members) =
    third ∙ (λ i. put_if (codes "rangeLength") (length_is i) (ranged i)) in
    last ∙ (λ i. put (codes "text") (text_is i) (measured i)) ∙ change_order own long shown

pub save_made : (a b c : Members) (text own : Option Data) (document shown : Data)
    → a ≡ no_members → b ≡ put_if (codes "text") text a → text ≡ own
    → c ≡ put (codes "textDocument") document b → document ≡ shown
    → c ≡ member_if (codes "text") own (member (codes "textDocument") shown no_members)
save_made a b c text own document shown first second text_is last document_is =
    let saved : b ≡ put_if (codes "text") own no_members =
    second ∙ (λ i. put_if (codes "text") (text_is i) (first i)) in
    last ∙ (λ i. put (codes "textDocument") (document_is i) (saved i)) ∙ save_order own shown

pub offer_made : (a b c : Members) (capabilities : Data) (token : Option Data) → a ≡ no_members
    → b ≡ put (codes "capabilities") capabilities a
    → c ≡ put_if (codes "workDoneToken") token b
    → c ≡ member (codes "capabilities") capabilities
    (member_if (codes "workDoneToken") token no_members)
offer_made a b c capabilities token first second last =
    last
    ∙ (λ i. put_if (codes "workDoneToken") token
    ((second ∙ (λ j. put (codes "capabilities") capabilities (first j))) i))
    ∙ offer_order capabilities token

pub call_made : (a b c d e : Members) (id : Option Data) (version : Data) (name : Data)
    (method : Text) (params : Option Data) → a ≡ no_members → b ≡ put_if (codes "id") id a
    → c ≡ put (codes "jsonrpc") version b → version ≡ version_data
    → d ≡ put (codes "method") name c → name ≡ string method
    → e ≡ put_if (codes "params") params d → e ≡ call_members id method params
call_made a b c d e id version name method params first second third version_is fourth name_is
    last =
    let named : b ≡ put_if (codes "id") id no_members =
    second ∙ (λ i. put_if (codes "id") id (first i)) in
    let versioned : c ≡ put (codes "jsonrpc") version_data (put_if (codes "id") id no_members) =
    third ∙ (λ i. put (codes "jsonrpc") (version_is i) (named i)) in
    let called : d ≡ put (codes "method") (string method) (put (codes "jsonrpc") version_data
    (put_if (codes "id") id no_members)) =
    fourth ∙ (λ i. put (codes "method") (name_is i) (versioned i)) in
    last ∙ (λ i. put_if (codes "params") params (called i)) ∙ call_order id method params

pub answer_made : (a b c d : Members) (version id : Data) (name : Text) (answer : Data)
    → a ≡ no_members → b ≡ put (codes "jsonrpc") version a → version ≡ version_data
    → c ≡ put (codes "id") id b → d ≡ put name answer c → d ≡ answer_members id name answer
answer_made a b c d version id name answer first second version_is third last =
    let versioned : b ≡ put (codes "jsonrpc") version_data no_members =
    second ∙ (λ i. put (codes "jsonrpc") (version_is i) (first i)) in
    let named : c ≡ put (codes "id") id (put (codes "jsonrpc") version_data no_members) =
    third ∙ (λ i. put (codes "id") id (versioned i)) in
    last ∙ (λ i. put name answer (named i)) ∙ answer_order id name answer
