-- The names of enumerations' numbers, as the standard writes them (KMIP 2.1, section 11). Numbers that the standard reserves have none here, nor
-- have those of operations, reasons and algorithms that no session of keys meets.
use Rattle.std.specs.Prelude.{ℕ, ◌==◌, if◌then◌else◌, List, [], ◌∷◌, codes, Option, Some, None}
use Rattle.kmipa_attrs.specs.Tags.{operation_tag, result_status, result_reason, batch_error_continuation_option, state_tag, object_type_tag, key_format_type, name_type, cryptographic_algorithm, revocation_reason_code, secret_data_type}

unfoldable pub operations : List (ℕ × List ℕ)
operations =
    (1, codes "Create")
    ∷ (2, codes "Create Key Pair")
    ∷ (3, codes "Register")
    ∷ (4, codes "Re-key")
    ∷ (5, codes "Derive Key")
    ∷ (6, codes "Certify")
    ∷ (7, codes "Re-certify")
    ∷ (8, codes "Locate")
    ∷ (9, codes "Check")
    ∷ (0xa, codes "Get")
    ∷ (0xb, codes "Get Attributes")
    ∷ (0xc, codes "Get Attribute List")
    ∷ (0xd, codes "Add Attribute")
    ∷ (0xe, codes "Modify Attribute")
    ∷ (0xf, codes "Delete Attribute")
    ∷ (0x10, codes "Obtain Lease")
    ∷ (0x11, codes "Get Usage Allocation")
    ∷ (0x12, codes "Activate")
    ∷ (0x13, codes "Revoke")
    ∷ (0x14, codes "Destroy")
    ∷ (0x15, codes "Archive")
    ∷ (0x16, codes "Recover")
    ∷ (0x17, codes "Validate")
    ∷ (0x18, codes "Query")
    ∷ (0x19, codes "Cancel")
    ∷ (0x1a, codes "Poll")
    ∷ (0x1b, codes "Notify")
    ∷ (0x1c, codes "Put")
    ∷ (0x1d, codes "Re-key Key Pair")
    ∷ (0x1e, codes "Discover Versions")
    ∷ (0x1f, codes "Encrypt")
    ∷ (0x20, codes "Decrypt")
    ∷ (0x21, codes "Sign")
    ∷ (0x22, codes "Signature Verify")
    ∷ (0x23, codes "MAC")
    ∷ (0x24, codes "MAC Verify")
    ∷ (0x25, codes "RNG Retrieve")
    ∷ (0x26, codes "RNG Seed")
    ∷ (0x27, codes "Hash")
    ∷ (0x28, codes "Create Split Key")
    ∷ (0x29, codes "Join Split Key")
    ∷ (0x2a, codes "Import")
    ∷ (0x2b, codes "Export")
    ∷ (0x2c, codes "Log")
    ∷ (0x2d, codes "Login")
    ∷ (0x2e, codes "Logout")
    ∷ (0x2f, codes "Delegated Login")
    ∷ (0x30, codes "Adjust Attribute")
    ∷ (0x31, codes "Set Attribute")
    ∷ (0x32, codes "Set Endpoint Role")
    ∷ (0x33, codes "PKCS#11")
    ∷ (0x34, codes "Interop")
    ∷ (0x35, codes "Re-Provision")
    ∷ []

unfoldable pub result_statuses : List (ℕ × List ℕ)
result_statuses =
    (0, codes "Success")
    ∷ (1, codes "Operation Failed")
    ∷ (2, codes "Operation Pending")
    ∷ (3, codes "Operation Undone")
    ∷ []

unfoldable pub result_reasons : List (ℕ × List ℕ)
result_reasons =
    (1, codes "Item Not Found")
    ∷ (2, codes "Response Too Large")
    ∷ (3, codes "Authentication Not Successful")
    ∷ (4, codes "Invalid Message")
    ∷ (5, codes "Operation Not Supported")
    ∷ (6, codes "Missing Data")
    ∷ (7, codes "Invalid Field")
    ∷ (8, codes "Feature Not Supported")
    ∷ (9, codes "Operation Canceled By Requester")
    ∷ (0xa, codes "Cryptographic Failure")
    ∷ (0xc, codes "Permission Denied")
    ∷ (0xd, codes "Object Archived")
    ∷ (0xf, codes "Application Namespace Not Supported")
    ∷ (0x10, codes "Key Format Type Not Supported")
    ∷ (0x11, codes "Key Compression Type Not Supported")
    ∷ (0x12, codes "Encoding Option Error")
    ∷ (0x13, codes "Key Value Not Present")
    ∷ (0x16, codes "Sensitive")
    ∷ (0x17, codes "Not Extractable")
    ∷ (0x18, codes "Object Already Exists")
    ∷ (0x1a, codes "Usage Limit Exceeded")
    ∷ (0x1b, codes "Numeric Range")
    ∷ (0x1c, codes "Invalid Data Type")
    ∷ (0x1d, codes "Read Only Attribute")
    ∷ (0x1e, codes "Multi Valued Attribute")
    ∷ (0x1f, codes "Unsupported Attribute")
    ∷ (0x20, codes "Attribute Instance Not Found")
    ∷ (0x21, codes "Attribute Not Found")
    ∷ (0x22, codes "Attribute Read Only")
    ∷ (0x23, codes "Attribute Single Valued")
    ∷ (0x24, codes "Bad Cryptographic Parameters")
    ∷ (0x25, codes "Bad Password")
    ∷ (0x28, codes "Illegal Object Type")
    ∷ (0x29, codes "Incompatible Cryptographic Usage Mask")
    ∷ (0x2a, codes "Internal Server Error")
    ∷ (0x2c, codes "Invalid Attribute")
    ∷ (0x2d, codes "Invalid Attribute Value")
    ∷ (0x30, codes "Invalid Object Type")
    ∷ (0x32, codes "Key Wrap Type Not Supported")
    ∷ (0x35, codes "Non Unique Name Attribute")
    ∷ (0x36, codes "Object Destroyed")
    ∷ (0x37, codes "Object Not Found")
    ∷ (0x39, codes "Not Authorised")
    ∷ (0x3a, codes "Server Limit Exceeded")
    ∷ (0x3b, codes "Unknown Enumeration")
    ∷ (0x3d, codes "Unknown Tag")
    ∷ (0x3e, codes "Unsupported Cryptographic Parameters")
    ∷ (0x3f, codes "Unsupported Protocol Version")
    ∷ (0x43, codes "Wrong Key Lifecycle State")
    ∷ (0x100, codes "General Failure")
    ∷ []

unfoldable pub batch_error_continuation_options : List (ℕ × List ℕ)
batch_error_continuation_options =
    (1, codes "Continue")
    ∷ (2, codes "Stop")
    ∷ (3, codes "Undo")
    ∷ []

unfoldable pub states : List (ℕ × List ℕ)
states =
    (1, codes "Pre-Active")
    ∷ (2, codes "Active")
    ∷ (3, codes "Deactivated")
    ∷ (4, codes "Compromised")
    ∷ (5, codes "Destroyed")
    ∷ (6, codes "Destroyed Compromised")
    ∷ []

unfoldable pub object_types : List (ℕ × List ℕ)
object_types =
    (1, codes "Certificate")
    ∷ (2, codes "Symmetric Key")
    ∷ (3, codes "Public Key")
    ∷ (4, codes "Private Key")
    ∷ (5, codes "Split Key")
    ∷ (7, codes "Secret Data")
    ∷ (8, codes "Opaque Object")
    ∷ (9, codes "PGP Key")
    ∷ (0xa, codes "Certificate Request")
    ∷ []

unfoldable pub key_format_types : List (ℕ × List ℕ)
key_format_types =
    (1, codes "Raw")
    ∷ (2, codes "Opaque")
    ∷ (3, codes "PKCS#1")
    ∷ (4, codes "PKCS#8")
    ∷ (5, codes "X.509")
    ∷ (6, codes "EC Private Key")
    ∷ (7, codes "Transparent Symmetric Key")
    ∷ (8, codes "Transparent DSA Private Key")
    ∷ (9, codes "Transparent DSA Public Key")
    ∷ (0xa, codes "Transparent RSA Private Key")
    ∷ (0xb, codes "Transparent RSA Public Key")
    ∷ (0xc, codes "Transparent DH Private Key")
    ∷ (0xd, codes "Transparent DH Public Key")
    ∷ (0x14, codes "Transparent EC Private Key")
    ∷ (0x15, codes "Transparent EC Public Key")
    ∷ (0x16, codes "PKCS#12")
    ∷ (0x17, codes "PKCS#10")
    ∷ []

unfoldable pub name_types : List (ℕ × List ℕ)
name_types =
    (1, codes "Uninterpreted Text String")
    ∷ (2, codes "URI")
    ∷ []

unfoldable pub cryptographic_algorithms : List (ℕ × List ℕ)
cryptographic_algorithms =
    (1, codes "DES")
    ∷ (2, codes "3DES")
    ∷ (3, codes "AES")
    ∷ (4, codes "RSA")
    ∷ (5, codes "DSA")
    ∷ (6, codes "ECDSA")
    ∷ (7, codes "HMAC-SHA1")
    ∷ (8, codes "HMAC-SHA224")
    ∷ (9, codes "HMAC-SHA256")
    ∷ (0xa, codes "HMAC-SHA384")
    ∷ (0xb, codes "HMAC-SHA512")
    ∷ (0xc, codes "HMAC-MD5")
    ∷ (0xd, codes "DH")
    ∷ (0xe, codes "ECDH")
    ∷ (0xf, codes "ECMQV")
    ∷ (0x10, codes "Blowfish")
    ∷ (0x11, codes "Camellia")
    ∷ (0x12, codes "CAST5")
    ∷ (0x13, codes "IDEA")
    ∷ (0x14, codes "MARS")
    ∷ (0x15, codes "RC2")
    ∷ (0x16, codes "RC4")
    ∷ (0x17, codes "RC5")
    ∷ (0x18, codes "SKIPJACK")
    ∷ (0x19, codes "Twofish")
    ∷ (0x1a, codes "EC")
    ∷ (0x1b, codes "One Time Pad")
    ∷ (0x1c, codes "ChaCha20")
    ∷ (0x1d, codes "Poly1305")
    ∷ (0x1e, codes "ChaCha20Poly1305")
    ∷ []

unfoldable pub revocation_reason_codes : List (ℕ × List ℕ)
revocation_reason_codes =
    (1, codes "Unspecified")
    ∷ (2, codes "Key Compromise")
    ∷ (3, codes "CA Compromise")
    ∷ (4, codes "Affiliation Changed")
    ∷ (5, codes "Superseded")
    ∷ (6, codes "Cessation of Operation")
    ∷ (7, codes "Privilege Withdrawn")
    ∷ []

unfoldable pub secret_data_types : List (ℕ × List ℕ)
secret_data_types =
    (1, codes "Password")
    ∷ (2, codes "Seed")
    ∷ []

-- the name of a number of these
abbrev pub name_among : List (ℕ × List ℕ) → ℕ → Option (List ℕ)
name_among [] n = None
name_among (row ∷ rows) n = if row.0 == n then Some row.1 else name_among rows n

-- The name of a number of the enumeration that items with this tag hold, where the standard names it.
abbrev pub number_name_of : ℕ → ℕ → Option (List ℕ)
number_name_of tag n =
    if tag == operation_tag then name_among operations n
    else if tag == result_status then name_among result_statuses n
    else if tag == result_reason then name_among result_reasons n
    else if tag == batch_error_continuation_option then name_among batch_error_continuation_options n
    else if tag == state_tag then name_among states n
    else if tag == object_type_tag then name_among object_types n
    else if tag == key_format_type then name_among key_format_types n
    else if tag == name_type then name_among name_types n
    else if tag == cryptographic_algorithm then name_among cryptographic_algorithms n
    else if tag == revocation_reason_code then name_among revocation_reason_codes n
    else if tag == secret_data_type then name_among secret_data_types n
    else None
